-- Two nexts on a cutter that was just opened, as a run of the law.
use Rattle.std.proofs.Common.{◌≡◌, Option, ◌∙◌, subst}
use Rattle.std.specs.Option.{option_map}
use Rattle.anystr.specs.declared.anystr.AnyStr
use Rattle.searchers.specs.declared.searcher.Searcher
use Rattle.cuts.specs.Cuts.{Opening, State, at_opening, size}
use Rattle.cuts.specs.Runs.{Step, next, none, more, RunsLaw}
use Rattle.cutters.specs.Calls.{opening, state, span, NextStep, Rests}
use Rattle.cutters.specs.pieces.Yields.{same_opening}
use Rattle.cutters.specs.declared.cutter.Cutter.{Cutter}
use Rattle.cutters.specs.declared.piece.Piece.{Piece}
use Rattle.callers.specs.Rests.{RestsAfterTwo}

-- what the law says of them is told of what the cutter was opened on
pub rests_after_two : {S F C : Type 0} {s : AnyStr.Ghosts S C} {f : Searcher.Ghosts F S C} (on : Opening)
    (c d e : Cutter S F C s f) (p q : Option Piece) (r : Piece)
    → opening c ≡ on → state c ≡ at_opening → RunsLaw (opening c) → NextStep c p d → NextStep d q e → Rests e r
    → RestsAfterTwo on r
rests_after_two on c d e p q r is start law one two rest =
    let after_one = same_opening c d one.same in
    let first = subst (λ (s : State). Step (opening c) s (next (option_map span p)) (state d)) start one.step in
    let second = subst (λ (o : Opening). Step o (state d) (next (option_map span q)) (state e)) after_one two.step in
    let whole : RestsAfterTwo (opening c) r = record {
      first = option_map span p;
      second = option_map span q;
      state = state e;
      law = law _ _ (more (more none first) second);
      is = subst (λ (o : Opening). span r ≡ ((state e).place, size o)) (same_opening d e two.same ∙ after_one) rest.0;
    } in
    subst (λ (o : Opening). RestsAfterTwo o r) is whole
