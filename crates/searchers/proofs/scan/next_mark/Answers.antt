use Rattle.std.proofs.Common.{ℕ, ◌+◌, arith, Some}
use Rattle.searchers.proofs.Found.{found_later, none_further, none_to_end}
use Rattle.searchers.proofs.scan.next_mark.Goals as goal

pub loop-seen-init : goal.loop-seen-init
loop-seen-init g c =
    let begun = c.bits_from-left.ensures in (
      omega arith,
      begun.low,
      omega (arith, begun.near),
      λ of. let seen = begun.seen of in (seen.0, seen.1, λ b e ge lt m. absurd (omega arith)),
    )

pub loop-seen-preserved : goal.loop-seen-preserved
loop-seen-preserved g c =
    let marks = g.P.Pattern.marks c.args.pattern.now c.args.bytes.now in
    let end : ℕ = c.loop-seen.seen.at + 64 in
    let next = c.look_on.result in
    let inv = c.loop-seen.invariant in (
      omega (arith, inv.0, inv.2, c.look_on.ensures.low),
      omega arith,
      omega arith,
      λ of.
          let before = c.loop-seen.invariant.3 of in
          let here = c.in_default.ensures end before.1 in
          let front = none_further marks c.args.from c.loop-seen.at end before.2 here in (
            c.look_on.ensures.seen,
            c.look_on.ensures.seen,
            none_further marks c.args.from end next.at front c.look_on.ensures.passed,
          ),
    )

pub returns-in-Some-clause-value : goal.returns-in-Some-clause-value
returns-in-Some-clause-value g c of =
    let marks = g.P.Pattern.marks c.args.pattern.now c.args.bytes.now in
    let before = c.loop-seen.invariant.3 of in
    let found = c.in-Some.ensures (c.loop-seen.seen.at + 64) before.1 in
    found_later marks c.args.from c.loop-seen.at (Some c.in-Some.mark) c.loop-seen.invariant.0 before.2 found

pub returns-then-bytes-seen-le-LANES-clause-value : goal.returns-then-bytes-seen-le-LANES-clause-value
returns-then-bytes-seen-le-LANES-clause-value g c of =
    let marks = g.P.Pattern.marks c.args.pattern.now c.args.bytes.now in
    let end : ℕ = c.loop-seen.seen.at + 64 in
    let before = c.loop-seen.invariant.3 of in
    let here = c.in_default.ensures end before.1 in
    let none = none_further marks c.args.from c.loop-seen.at end before.2 here in
    none_to_end marks c.args.from end _ (g.P.Pattern.lawful c.args.pattern.now c.args.bytes.now) (omega arith) none
