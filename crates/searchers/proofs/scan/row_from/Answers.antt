use Rattle.std.proofs.Common.{suc, arith, subst}
use Rattle.searchers.specs.Marks.{CutTimes}
use Rattle.searchers.proofs.scan.row_from.Goals as goal

pub loop-end-preserved : goal.loop-end-preserved
loop-end-preserved g c =
    let marks = g.P.Pattern.marks c.args.pattern.now c.args.bytes.now in
    let inv = c.loop-end.invariant in
    let start = c.loop-end.place in
    let end = c.in-Some.end in
    let long = (g.P.Pattern.lawful c.args.pattern.now c.args.bytes.now).nonempty start end c.in-Some.ensures in (
      omega (arith, inv.0),
      λ n rest. subst (CutTimes marks c.args.from) (omega arith) (inv.1 (suc n) (
        start,
        end,
        record { after = omega arith; is = c.in-Some.ensures; least = λ b e ge m. ge },
        rest,
      )),
    )
