-- What a lent cutter shows as a source. Assumes nothing.
use Rattle.std.specs.Prelude.{◌≡◌, ℕ, suc, ◌≤◌, List, length, Option, refl}
use Rattle.std.specs.Iterator.{YieldsFirstBy, at_most}
use Rattle.anystr.specs.Limits.{most_bytes}
use Rattle.searchers.specs.Marks.{Span}
use Rattle.cutters.specs.Calls.{span}
use Rattle.cutters.specs.pieces.Sources.{CountsDown}
use Rattle.cutters.specs.declared.piece.Piece.{Piece}
use Rattle.cutters.specs.declared.pieces.lent.Lent.{Lent}

module _ {C : Type 0} where
  -- the cutter that is lent, and the loan by its ghost name
  abbrev pub lent_cutter : Lent C → C
  lent_cutter l = l.cutter.now

  abbrev pub loan_of : Lent C → ℕ
  loan_of l = l.cutter.ghost_name

  module _ (left : C → List Span) where
    -- the pieces that the cutter has left
    abbrev pub lent_left : Lent C → List Span
    lent_left l = left (lent_cutter l)

    -- a next gives the first of them, and the loan is the same
    pub record LentStep (l : Lent C) (r : Option Piece) (l' : Lent C) : Type 0 where
      pub yields : YieldsFirstBy span lent_left l r l'
      pub same_loan : loan_of l' ≡ loan_of l

    -- as many come as are left, and these are few
    pub lent_counts : ((c : C) → length (left c) ≤ suc most_bytes) → (l : Lent C)
        → CountsDown (at_most (length (lent_left l))) (lent_left l)
    lent_counts few l = record { all = refl; few = few (lent_cutter l) }
