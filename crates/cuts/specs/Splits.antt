-- What a text is split into at marks, from the front and from the end. Assumes nothing.
use Rattle.std.specs.Prelude.{◌≡◌, ℕ, ◌+◌, ◌-◌, ◌<◌, ◌≤◌, if◌then◌else◌, ◌&&◌, IsTrue, nat_le, nat_lt}
use Rattle.std.specs.Prelude.{List, [], ◌∷◌, map, reverse, ℤ, Option}
use Rattle.std.specs.Option.{option_map}
use Rattle.searchers.specs.Marks.{Marks, Span}
use Rattle.cuts.specs.Cuts.{all_marks, cuts, between, fewer, Opening, size, State, pieces_left, next_of}
use Rattle.cuts.specs.Runs.{In, Overlap}

-- the pieces of a text of `len` bytes, cut at marks from the front while fewer cuts are made than the bound
abbrev pub pieces_of : Marks → ℕ → ℤ → List Span
pieces_of marks len bound = between 0 len (cuts bound 0 0 (all_marks marks len))

-- a stretch of a text of `len` bytes as it is seen from the text's end
abbrev pub flip : ℕ → Span → Span
flip len m = (len - m.1, len - m.0)

-- the marks of a text of `len` bytes as they are seen from its end
abbrev pub mirror : Marks → ℕ → Marks
mirror marks len a e = nat_le a len && (nat_le e len && marks (len - e) (len - a))

-- the stretches seen from the end, in the order of the text
abbrev pub mirrored_spans : ℕ → List Span → List Span
mirrored_spans len ms = reverse (map (flip len) ms)

-- the pieces of a text of `len` bytes, cut at marks from the end while fewer cuts are made than the bound, in the
-- order of the text
abbrev pub rpieces_of : Marks → ℕ → ℤ → List Span
rpieces_of marks len bound = mirrored_spans len (pieces_of (mirror marks len) len bound)

-- what a cutter was opened on, as it is seen from the end of its text; of its bytes only the number counts
abbrev pub mirrored_opening : Opening → Opening
mirrored_opening on = record { marks = mirror on.marks (size on); bytes = on.bytes; bound = on.bound }

-- the pieces that are left to a cutter from the end, whose state is seen from the end, in the order in which it gives
-- them
abbrev pub left_back : Opening → State → List Span
left_back on s = map (flip (size on)) (pieces_left (mirrored_opening on) s)

-- next of such a cutter: what it gives, and the state after it
abbrev pub next_back : Opening → State → Option Span × State
next_back on s = (option_map (flip (size on)) (next_of (mirrored_opening on) s).0, (next_of (mirrored_opening on) s).1)

-- no later cut overlaps the mark
abbrev pub FreeBack : List Span → Span → Type 0
FreeBack cut m = (c : Span) → In c cut → m.1 < c.1 → Overlap c m → ⊥

-- how many cuts end after `e`
abbrev pub count_after : List Span → ℕ → ℕ
count_after [] e = 0
count_after (c ∷ cs) e = (if nat_lt e c.1 then 1 else 0) + count_after cs e

-- Of the marks that end after `rest`, exactly those are cut that no later cut overlaps and whose later cuts
-- are fewer than the bound.
pub record CutRuleBack (marks : Marks) (bound : ℤ) (rest : ℕ) (cut : List Span) : Type 0 where
  pub marked : (m : Span) → In m cut → IsTrue (marks m.0 m.1) × (rest < m.1)
  pub only : (m : Span) → In m cut → FreeBack cut m × IsTrue (fewer (count_after cut m.1) bound)
  pub every : (m : Span) → IsTrue (marks m.0 m.1) → rest < m.1
      → FreeBack cut m → IsTrue (fewer (count_after cut m.1) bound) → In m cut

-- cuts that stand one after another from `p` to `len`, none of them empty
abbrev pub Apart : ℕ → List Span → ℕ → Type 0
Apart p [] len = p ≤ len
Apart p (m ∷ ms) len = (p ≤ m.0) × (m.0 < m.1) × Apart m.1 ms len

-- The places lie between cuts of a text of `len` bytes, and the cuts keep a rule.
pub record SplitBy (Rule : List Span → Type 0) (len : ℕ) (places : List Span) : Type 0 where
  pub cut : List Span
  pub rule : Rule cut
  pub order : Apart 0 cut len
  pub are : places ≡ between 0 len cut
