-- How often a needle stands between two offsets without overlap. Assumes nothing.
use Rattle.std.specs.Prelude.{◌≡◌, ℕ, suc, ◌-◌, ◌<◌, ◌≤◌, if◌then◌else◌, List, [], ◌∷◌, length, Some, nat_le}
use Rattle.anystr.specs.Places.{part}
use Rattle.searchers.specs.Marks.{Span}
use Rattle.searchers.specs.substring.Occurrences.{occurrence}
use Rattle.cuts.specs.Cuts.{cut_from}
use Rattle.cuts.specs.Runs.{Cut, CutRule, Lie, marks_of}
use Rattle.bytesinner.specs.Openings.{unbounded, opening_at}

-- the number of occurrences that are cut from the front; an empty needle stands before each byte and at the end
abbrev pub times : List ℕ → List ℕ → ℕ
times [] bs = suc (length bs)
times (x ∷ n) bs = length (cut_from (opening_at bs (x ∷ n) unbounded) 0 0)

-- count: how often from a to b
abbrev pub count_of : List ℕ → List ℕ → ℕ → ℕ → ℕ
count_of bs n a b = if nat_le a b then times n (part bs (a, b)) else 0

-- all the bytes, in pieces with k occurrences of the needle after them and a last piece, as an unbounded cutter cuts
-- them
pub record CutUp (n bs : List ℕ) (k : ℕ) : Type 0 where
  pub row : List Cut
  pub tail : Span
  pub lie : Lie 0 row (Some tail) (length bs) (length bs)
  pub rule : CutRule (occurrence n bs) unbounded (length bs) (marks_of row)
  pub number : length row ≡ k

-- the number of a needle's occurrences: an empty one stands at every offset from a to b
abbrev pub Number : List ℕ → List ℕ → ℕ → ℕ → ℕ → Type 0
Number bs [] a b k = (a ≤ b → k ≡ suc (b - a)) × (b < a → k ≡ 0)
Number bs (x ∷ n) a b k = CutUp (x ∷ n) (part bs (a, b)) k
