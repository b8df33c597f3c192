use Rattle.std.proofs.Common.{◌≡◌, subst, rules, arith}
use Rattle.std.proofs.lemmas.Bool.{both_ways}
use Rattle.anystr.specs.Elements.{Occurs}
use Rattle.searchers.specs.substring.Occurrences.{fits}
use Rattle.searchers.proofs.substring.Needles.{stood, stood_not}
use Rattle.searchers.proofs.substring.NeedlePattern.mark_to.Goals as goal

pub returns-then-stands : goal.returns-then-stands
returns-then-stands c =
    let e = c.in_ok-start.ensures in
    stood c.args.self.now.bytes.now c.args.bytes.now c.in_ok-start.start _ (search rules) (omega arith)
    (c.stands.ensures.0 c.if-stands.true)

pub returns-else-stands : goal.returns-else-stands
returns-else-stands c a m =
    let n = c.args.self.now.bytes.now in
    let bs = c.args.bytes.now in
    let f = fits n bs a c.args.end m in
    let e = c.in_ok-start.ensures in
    let at : a ≡ c.in_ok-start.start = omega arith in
    stood_not n bs a c.args.end (λ o. both_ways _ c.if-stands.false (c.stands.ensures.1 (subst (Occurs bs n) at o))) m
