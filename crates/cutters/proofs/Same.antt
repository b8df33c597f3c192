-- A cutter keeps what it was opened on.
use Rattle.std.proofs.Common.{Some, ◌∙◌, subst}
use Rattle.anystr.specs.declared.anystr.AnyStr
use Rattle.searchers.specs.Marks.{Span}
use Rattle.searchers.specs.declared.searcher.Searcher
use Rattle.cuts.specs.Cuts.{Opening}
use Rattle.cuts.specs.Runs.{Step, next}
use Rattle.cutters.specs.Calls.{opening, state, SameOpening}
use Rattle.cutters.specs.pieces.Yields.{same_opening}
use Rattle.cutters.specs.declared.cutter.Cutter.{Cutter}

module _ {S F C : Type 0} {s : AnyStr.Ghosts S C} {f : Searcher.Ghosts F S C} where
  pub same_again : (c d e : Cutter S F C s f) → SameOpening c d → SameOpening d e → SameOpening c e
  same_again c d e p q =
      record { text = q.text ∙ p.text; searcher = q.searcher ∙ p.searcher; bound = q.bound ∙ p.bound }

  -- a next on a cutter that was opened on the same is a step on that
  pub step_on : (c d e : Cutter S F C s f) (p : Span) → SameOpening c d
      → Step (opening d) (state d) (next (Some p)) (state e) → Step (opening c) (state d) (next (Some p)) (state e)
  step_on c d e p q h = subst (λ (o : Opening). Step o (state d) (next (Some p)) (state e)) (same_opening c d q) h
