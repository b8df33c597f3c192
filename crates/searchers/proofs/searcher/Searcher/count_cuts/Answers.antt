use Rattle.std.proofs.Common.{suc, subst, add-zero, arith}
use Rattle.searchers.specs.Marks.{CutTimes}
use Rattle.searchers.proofs.searcher.Searcher.count_cuts.Goals as goal

pub loop-mark-init : goal.loop-mark-init
loop-mark-init g c =
    let marks = g.Self.Searcher.marks c.args.self.now (g.S.AnyStr.elements c.args.text.now) in
    (omega arith, c.nothing-seen.ensures marks, λ n cut. subst (CutTimes marks c.args.from) (omega arith) cut)

pub loop-mark-preserved : goal.loop-mark-preserved
loop-mark-preserved g c =
    let marks = g.Self.Searcher.marks c.args.self.now (g.S.AnyStr.elements c.args.text.now) in
    let mark = c.in-Some-resume.mark in
    let step = c.in-Some-resume.ensures c.loop-mark.invariant.1 in
    let found = step.value in
    let long = (g.met.Self.Searcher.lawful c.args.self.now c.args.text.now).nonempty _ _ found.is in
    let ge = found.after in (
      omega arith,
      step.seen,
      λ n rest. subst (CutTimes marks c.args.from) (omega arith)
          (c.loop-mark.invariant.2 (suc n) (mark.start, mark.end, found, rest)),
    )

pub loop-mark-smaller : goal.loop-mark-smaller
loop-mark-smaller g c =
    let law = g.met.Self.Searcher.lawful c.args.self.now c.args.text.now in
    let found = (c.in-Some-resume.ensures c.loop-mark.invariant.1).value in
    let long = law.nonempty _ _ found.is in
    let within = law.within _ _ found.is in
    let ge = found.after in
    omega arith

pub overflow_add-count : goal.overflow_add-count
overflow_add-count g c =
    let found = (c.in-Some-resume.ensures c.loop-mark.invariant.1).value in
    let long = (g.met.Self.Searcher.lawful c.args.self.now c.args.text.now).nonempty _ _ found.is in
    let ge = found.after in
    omega arith

pub returns : goal.returns
returns g c = simp add-zero at (c.loop-mark.invariant.2 0 (c.in_default-resume.ensures c.loop-mark.invariant.1).value)
