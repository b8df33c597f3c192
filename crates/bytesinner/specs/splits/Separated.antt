-- What a text is split into at a separator. Assumes nothing.
use Rattle.std.specs.Prelude.{◌≡◌, ℕ, List, [], ◌∷◌, length, ℤ, Ok, Err, Result}
use Rattle.anystr.specs.Places.{join_parts}
use Rattle.searchers.specs.Marks.{Span}
use Rattle.searchers.specs.substring.Occurrences.{occurrence}
use Rattle.cuts.specs.Runs.{CutRule}
use Rattle.cuts.specs.Splits.{pieces_of, rpieces_of, CutRuleBack, SplitBy}

-- an empty separator is refused
abbrev pub unless_empty : List ℕ → List Span → Result (List Span) (ℕ × ℕ)
unless_empty [] places = Err (1, 0)
unless_empty (_ ∷ _) places = Ok places

-- split: the places between the occurrences of the separator that are cut from the front
abbrev pub split_of : List ℕ → List ℕ → ℤ → Result (List Span) (ℕ × ℕ)
split_of bytes sep maxsplit = unless_empty sep (pieces_of (occurrence sep bytes) (length bytes) maxsplit)

-- rsplit: the places between those that are cut from the end
abbrev pub rsplit_of : List ℕ → List ℕ → ℤ → Result (List Span) (ℕ × ℕ)
rsplit_of bytes sep maxsplit = unless_empty sep (rpieces_of (occurrence sep bytes) (length bytes) maxsplit)

-- the places lie between the occurrences of the separator that the rule cuts from the front
abbrev pub SplitFront : (bytes sep : List ℕ) → ℤ → List Span → Type 0
SplitFront bytes sep maxsplit = SplitBy (CutRule (occurrence sep bytes) maxsplit (length bytes)) (length bytes)

-- the places lie between those that the rule cuts from the end
abbrev pub SplitBack : (bytes sep : List ℕ) → ℤ → List Span → Type 0
SplitBack bytes sep maxsplit = SplitBy (CutRuleBack (occurrence sep bytes) maxsplit 0) (length bytes)

-- the bytes of the places, with the separator between them, are the bytes of the text
abbrev pub Restore : (bytes sep : List ℕ) → List Span → Type 0
Restore bytes sep places = join_parts sep bytes places ≡ bytes
