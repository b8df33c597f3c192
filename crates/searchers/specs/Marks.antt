-- The marks of a text, as a searcher means them. Assumes nothing.
use Rattle.std.specs.Prelude.{◌≡◌, ℕ, zero, suc, ◌+◌, ◌<◌, ◌≤◌, Bool, IsTrue, List, Some, None, Option}
use Rattle.std.proofs.Common.{arith}
use Rattle.anystr.specs.Elements.{Boundary}
use Rattle.searchers.specs.declared.mark.Mark.{Mark}

-- a stretch of a text, by its start and its end
abbrev pub Span : Type 0
Span = ℕ × ℕ

-- a set of marks: whether the stretch from a start to an end is one
abbrev pub Marks : Type 0
Marks = ℕ → ℕ → Bool

-- what every set of marks keeps in a text of `len` bytes
pub record Lawful (marks : Marks) (len : ℕ) : Type 0 where
  pub nonempty : (a e : ℕ) → IsTrue (marks a e) → a < e
  pub within : (a e : ℕ) → IsTrue (marks a e) → e ≤ len
  pub one_a_start : (a d e : ℕ) → IsTrue (marks a d) → IsTrue (marks a e) → d ≡ e
  pub one_an_end : (a b e : ℕ) → IsTrue (marks a e) → IsTrue (marks b e) → a ≡ b

-- an answer passes a test; there is none exactly where nothing passes
abbrev pub FindsOne : (ℕ → Bool) → Option ℕ → Type 0
FindsOne test None = (n : ℕ) → IsTrue (test n) → ⊥
FindsOne test (Some n) = IsTrue (test n)

-- the mark with the least start at or after `from`
pub record Least (marks : Marks) (from a e : ℕ) : Type 0 where
  pub after : from ≤ a
  pub is : IsTrue (marks a e)
  pub least : (b d : ℕ) → from ≤ b → IsTrue (marks b d) → a ≤ b

-- no mark begins at or after `from`
abbrev pub NoneFrom : Marks → ℕ → Type 0
NoneFrom marks from = (b d : ℕ) → from ≤ b → IsTrue (marks b d) → ⊥

-- the mark with the greatest end at or before `before`
pub record Greatest (marks : Marks) (before a e : ℕ) : Type 0 where
  pub ahead : e ≤ before
  pub is : IsTrue (marks a e)
  pub greatest : (b d : ℕ) → d ≤ before → IsTrue (marks b d) → d ≤ e

-- no mark ends at or before `before`
abbrev pub NoneBefore : Marks → ℕ → Type 0
NoneBefore marks before = (b d : ℕ) → d ≤ before → IsTrue (marks b d) → ⊥

-- what a search from `from` on answers
abbrev pub Finds : Marks → ℕ → Option Mark → Type 0
Finds marks from None = NoneFrom marks from
Finds marks from (Some m) = Least marks from m.start m.end

-- what a search from the end, before `before`, answers
abbrev pub FindsBack : Marks → ℕ → Option Mark → Type 0
FindsBack marks before None = NoneBefore marks before
FindsBack marks before (Some m) = Greatest marks before m.start m.end

-- a mark that is answered lies on boundaries
abbrev pub OnBoundaries : List (List ℕ) → Option Mark → Type 0
OnBoundaries es None = Unit {0}
OnBoundaries es (Some m) = Boundary es m.start × Boundary es m.end

-- every mark lies on boundaries
abbrev pub Bounded : List (List ℕ) → Marks → Type 0
Bounded es marks = (a e : ℕ) → IsTrue (marks a e) → Boundary es a × Boundary es e

-- n marks are cut from `from` on, each the first that begins at or after the end of the one before, and then none is
-- left
abbrev pub CutTimes : Marks → (from n : ℕ) → Type 0
CutTimes marks from zero = NoneFrom marks from
CutTimes marks from (suc n) = (a e : ℕ) × Least marks from a e × CutTimes marks e n

-- all marks are so many bytes long
abbrev pub AllOfLength : ℕ → Marks → Type 0
AllOfLength len marks = (a e : ℕ) → IsTrue (marks a e) → e ≡ a + len

-- marks that are all as long, and lie within the text, keep it
pub one_length-lawful : (marks : Marks) (len k : ℕ)
    → ((a e : ℕ) → IsTrue (marks a e) → (0 < k) × (e ≡ a + k) × (e ≤ len)) → Lawful marks len
one_length-lawful marks len k long = record {
  nonempty = λ a e m. let l = long a e m in omega arith;
  within = λ a e m. (long a e m).2;
  one_a_start = λ a d e m n. let l = long a d m in let r = long a e n in omega arith;
  one_an_end = λ a b e m n. let l = long a e m in let r = long b e n in omega arith;
}
