-- What a search sees of a text, and what it finds by that. Assumes nothing.
use Rattle.std.specs.Prelude.{◌≡◌, ℕ, ◌+◌, ◌-◌, ◌<◌, ◌≤◌, IsTrue, List, None, Some, Option}
use Rattle.std.specs.Int.{bit_at}
use Rattle.searchers.specs.Marks.{Marks, Least, Greatest, Finds, FindsBack, OnBoundaries}
use Rattle.searchers.specs.declared.mark.Mark.{Mark}
use Rattle.searchers.specs.declared.seen.Seen.{Seen}
use Rattle.searchers.specs.declared.seen.SeenBack.{SeenBack}

-- of the offsets from `at` up to `end`, bit k is set where a mark begins at `at + k`, and maybe elsewhere
abbrev pub MayBegin : Marks → (at end bits : ℕ) → Type 0
MayBegin marks at end bits = (b e : ℕ) → at ≤ b → b < end → IsTrue (marks b e) → bit_at bits (b - at) ≡ 1

-- the same, and no bit is set of an offset from `end` on
pub record Begins (marks : Marks) (at end bits : ℕ) : Type 0 where
  pub may : MayBegin marks at end bits
  pub below : (k : ℕ) → bit_at bits k ≡ 1 → at + k < end

-- of the 64 offsets after `at`, bit k is set where a mark ends at `at + k + 1`, and maybe elsewhere
abbrev pub MayEnd : Marks → (at bits : ℕ) → Type 0
MayEnd marks at bits = (b e : ℕ) → at < e → e ≤ at + 64 → IsTrue (marks b e) → bit_at bits (e - at - 1) ≡ 1

-- the same up to `to`, and no bit is set of an offset after it
pub record Ends (marks : Marks) (at to bits : ℕ) : Type 0 where
  pub may : (b e : ℕ) → at < e → e ≤ to → IsTrue (marks b e) → bit_at bits (e - at - 1) ≡ 1
  pub below : (k : ℕ) → bit_at bits k ≡ 1 → at + k < to

-- no mark begins from `at` up to `end`
abbrev pub NoneBegins : Marks → (at end : ℕ) → Type 0
NoneBegins marks at end = (b e : ℕ) → at ≤ b → b < end → IsTrue (marks b e) → ⊥

-- no mark ends after `at` up to `end`
abbrev pub NoneEnds : Marks → (at end : ℕ) → Type 0
NoneEnds marks at end = (b e : ℕ) → at < e → e ≤ end → IsTrue (marks b e) → ⊥

-- the first mark from `at` on; none where none begins up to `end`
abbrev pub FindsWithin : Marks → (at end : ℕ) → Option Mark → Type 0
FindsWithin marks at end None = NoneBegins marks at end
FindsWithin marks at end (Some m) = Least marks at m.start m.end

-- the last mark up to `end`; none where none ends after `at`
abbrev pub FindsBackWithin : Marks → (at end : ℕ) → Option Mark → Type 0
FindsBackWithin marks at end None = NoneEnds marks at end
FindsBackWithin marks at end (Some m) = Greatest marks end m.start m.end

-- what was seen is so of these marks
abbrev pub IsSeenOf : Marks → Seen → Type 0
IsSeenOf marks seen = Begins marks seen.at (seen.at + 64) seen.bits

-- the bits that were seen, from `from` on
pub record Rest (seen : Seen) (from bits : ℕ) : Type 0 where
  pub low : seen.at ≤ from
  pub near : from < seen.at + 64
  pub moved : (k : ℕ) → bit_at bits k ≡ bit_at seen.bits (from - seen.at + k)

-- what a search from `from` on answers and has seen then
pub record Resumes (es : List (List ℕ)) (marks : Marks) (from : ℕ) (r : Option Mark) (new : Seen) : Type 0 where
  pub value : Finds marks from r
  pub cut : OnBoundaries es r
  pub seen : IsSeenOf marks new

-- what was seen from the end is so of these marks
abbrev pub IsSeenBackOf : Marks → SeenBack → Type 0
IsSeenBackOf marks seen = MayEnd marks seen.at seen.bits

-- the bits that were seen from the end, of the offsets up to `to`
pub record RestBack (seen : SeenBack) (to bits : ℕ) : Type 0 where
  pub low : seen.at < to
  pub near : to ≤ seen.at + 64
  pub kept : (k : ℕ) → seen.at + k < to → bit_at bits k ≡ bit_at seen.bits k
  pub below : (k : ℕ) → bit_at bits k ≡ 1 → seen.at + k < to

-- what a search from the end, before `before`, answers and has seen then
pub record ResumesBack (es : List (List ℕ)) (marks : Marks) (before : ℕ) (r : Option Mark) (new : SeenBack)
    : Type 0 where
  pub value : FindsBack marks before r
  pub cut : OnBoundaries es r
  pub seen : IsSeenBackOf marks new
