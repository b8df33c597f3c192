use Rattle.std.proofs.Common.{◌≡◌, ℕ, List, [], length, drop, Some, None, sym, ◌∙◌, subst, arith}
use Rattle.std.proofs.lemmas.List.{set-get_or}
use Rattle.searchers.specs.Marks.{Span}
use Rattle.cutters.specs.Calls.{span}
use Rattle.cutters.specs.pieces.Sources.{Filled}
use Rattle.cutters.proofs.pieces.Written.{comes, filled_more, all_taken, none_after}
use Rattle.cutters.proofs.pieces.fill.fill.Goals as goal

pub loop-place-preserved : goal.loop-place-preserved
loop-place-preserved g c =
    let xs = g.P.Pieces.left c.args.source.now in
    let left = g.P.Pieces.left c.next.new.self in
    let i : ℕ = c.loop-place.place-index in
    let piece = c.in-Some.piece in
    let steps = c.in-Some.ensures.steps in
    let e = g.met.P.Pieces.gives c.loop-place.source (Some piece) c.next.new.self c.in-Some.ensures.steps in
    let at = comes xs left i (span piece) (sym c.loop-place.invariant.1 ∙ e) in (
      filled_more xs left i (span piece) c.args.places.now c.loop-place.places c.into.result at c.into.ensures
          (omega arith) c.loop-place.invariant.0,
      at.others,
      λ of same. same c.loop-place.source c.next.new.self (Some piece) steps ∙ c.loop-place.invariant.2 of same,
    )

pub returns-in_default : goal.returns-in_default
returns-in_default g c =
    let xs = g.P.Pieces.left c.args.source.now in
    let i : ℕ = c.loop-place.place-index in
    let n : ℕ = length c.args.places.now in
    let gave = g.met.P.Pieces.gives c.loop-place.source None c.next.new.self c.in_default.ensures.steps in
    let none : drop i xs ≡ [] = sym c.loop-place.invariant.1 ∙ gave.0 in
    record {
      written =
          rw set-get_or
          (subst (λ (ps : List Span). Filled ps c.args.places.now c.loop-place.places)
          (all_taken xs i n (omega arith) none) c.loop-place.invariant.0);
      left = gave.1 ∙ sym (none_after xs i n (omega arith) none);
      kept = λ of same. same c.loop-place.source c.next.new.self None c.in_default.ensures.steps
          ∙ c.loop-place.invariant.2 of same;
    }
