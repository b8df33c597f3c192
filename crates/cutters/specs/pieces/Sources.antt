-- Sources of pieces, and lists that are written from them. Assumes nothing.
use Rattle.std.specs.Prelude.{◌≡◌, ℕ, suc, ◌≤◌, List, length, take, drop, Option}
use Rattle.std.specs.Iterator.{Count, at_most}
use Rattle.anystr.specs.Limits.{most_bytes}
use Rattle.anystr.specs.Places.{stretches}
use Rattle.anystr.specs.declared.place.Place.{Place}
use Rattle.searchers.specs.Marks.{Span}
use Rattle.cutters.specs.declared.piece.Piece.{Piece}

-- no more items come than these pieces, and they are at most one more than a text can have bytes
pub record CountsDown (remaining : Count) (left : List Span) : Type 0 where
  pub all : remaining ≡ at_most (length left)
  pub few : length left ≤ suc most_bytes

-- a number that each next of a source leaves as it is, a ghost name say, is as it was
abbrev pub Keeps : {S : Type 0} → (S → Option Piece → S → Type 0) → S → S → Type 0
Keeps {S} steps s t = (of : S → ℕ) → ((a b : S) (r : Option Piece) → steps a r b → of b ≡ of a) → of t ≡ of s

-- a list after these pieces were written into its first entries; the others are as they were
pub record Filled (ps : List Span) (list list' : List Place) : Type 0 where
  pub written : stretches (take (length ps) list') ≡ ps
  pub others : drop (length ps) list' ≡ drop (length ps) list
