use Rattle.std.proofs.Common.{subst}
use Rattle.cutters.specs.Calls.{opening_of, NextStep, Rests}
use Rattle.cutters.specs.pieces.Lefts.{cutter_of}
use Rattle.callers.proofs.Nexts.{rests_after_two}
use Rattle.callers.proofs.rests.behind_two.Goals as goal

pub returns : goal.returns
returns g c =
    let on = c.open.ensures.on in
    let opened = c.open.ensures in
    let next = c.next in
    let after = cutter_of next.new.self in
    let one = subst (λ k. NextStep k next.result after) c.pieces-fields.ensures next.ensures.steps in
    let rest = subst (λ k. Rests k c.rest.result) c.cutter.ensures c.rest.ensures.step in
    rests_after_two _ c.open.result _ _ next.result c.next-2.result c.rest.result
    (λ i. opening_of g.S.AnyStr g.F.Searcher (on.text i) (on.searcher i) (on.bound i))
    opened.state opened.law one c.next-2.ensures.steps rest
