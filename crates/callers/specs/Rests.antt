-- What is left of a text after two nexts, in the words of the law over calls. Assumes nothing.
use Rattle.std.specs.Prelude.{◌≡◌, [], ◌∷◌, Option}
use Rattle.searchers.specs.Marks.{Span}
use Rattle.cuts.specs.Cuts.{Opening, State, size}
use Rattle.cuts.specs.Runs.{next, After}
use Rattle.cutters.specs.Calls.{span}
use Rattle.cutters.specs.declared.piece.Piece.{Piece}

-- what the law says after two nexts holds, and the stretch is the rest that it speaks of
pub record RestsAfterTwo (on : Opening) (rest : Piece) : Type 0 where
  pub first : Option Span
  pub second : Option Span
  pub state : State
  pub law : After on (next second ∷ next first ∷ []) state
  pub is : span rest ≡ (state.place, size on)
