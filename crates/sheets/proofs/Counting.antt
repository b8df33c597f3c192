-- Counting the bytes of a set from mark to mark.
use Rattle.std.proofs.Common.{◌≡◌, ℕ, zero, suc, ◌+◌, ◌-◌, ◌<◌, ◌≤◌, Bool, true, false, cond, IsTrue, List, length}
use Rattle.std.proofs.Common.{get_or}
use Rattle.std.proofs.Common.{drop, refl, ap, ◌∙◌, ⊎_elim, arith}
use Rattle.std.specs.List.{count_by}
use Rattle.std.proofs.lemmas.List.{at_drop_all}
use Rattle.std.proofs.lemmas.List.Sums.{sum_by-drop_more}
use Rattle.std.proofs.lemmas.Bool.{cond-true, cond-false, cases_Bool, and_from, lt-ltb, eq-eqb}
use Rattle.searchers.specs.Marks.{Least, NoneFrom, CutTimes}
use Rattle.searchers.specs.bytesets.Sets.{single_bytes, single_bytes-is}

module _ (set : ℕ → Bool) (bs : List ℕ) where
  -- a mark is the single byte at an offset
  abbrev MarkAt : ℕ → Type 0
  MarkAt k = IsTrue (single_bytes set bs k (suc k))

  -- how many bytes of the set stand at an offset or after it
  abbrev left : ℕ → ℕ
  left from = count_by set (drop from bs)

  -- the byte at an offset counts if it is in the set
  left_more : (k c : ℕ) → k < length bs → cond (set (get_or bs k 0)) 1 0 ≡ c → left k ≡ c + left (k + 1)
  left_more k c lt e = sum_by-drop_more _ bs k 0 lt ∙ ap (λ n. n + left (k + 1)) e

  -- no byte that no mark begins with is in the set
  unmarked : (k : ℕ) → k < length bs → ¬ MarkAt k → set (get_or bs k 0) ≡ false
  unmarked k lt none = ⊎_elim (λ t. absurd (none (mark t))) (λ f. f) (cases_Bool (set (get_or bs k 0)))
    where
      mark : set (get_or bs k 0) ≡ true → MarkAt k
      mark t = and_from _ _ (lt-ltb k (length bs) lt) (and_from _ _ (eq-eqb (suc k) (suc k) refl) t)

  -- nothing is counted where no mark begins
  skipped : (n from : ℕ) → from + n ≤ length bs → ((k : ℕ) → from ≤ k → k < from + n → ¬ MarkAt k)
      → left from ≡ left (from + n)
  skipped zero from le none = ap left (omega arith)
  skipped (suc n) from le none =
      let here : set (get_or bs from 0) ≡ false = unmarked from (omega arith) (none from (omega arith) (omega arith)) in
      let rest = skipped n (from + 1) (omega arith) (λ k ge lt. none k (omega arith) (omega arith)) in
      let there : (from + 1) + n ≡ from + suc n = omega arith in
      omega (arith, left_more from 0 (omega arith) (cond-false _ _ _ here), ap left there)

  -- up to a mark one byte is counted, which is its own
  to-mark : (from a e : ℕ) → Least (single_bytes set bs) from a e → left from ≡ suc (left e)
  to-mark from a e m =
      let s = single_bytes-is set bs a e m.is in
      let ge = m.after in
      let there : from + (a - from) ≡ a = omega arith in
      let next : a + 1 ≡ e = omega arith in
      let none : (k : ℕ) → from ≤ k → k < from + (a - from) → ¬ MarkAt k =
      λ k ge lt is. absurd (omega (arith, m.least k (suc k) ge is)) in
      let free = skipped (a - from) from (omega arith) none in
      omega (arith, ap left there, ap left next, left_more a 1 s.within (cond-true _ _ _ s.has))

  -- past the last mark none is counted
  to_end : (from : ℕ) → from ≤ length bs → NoneFrom (single_bytes set bs) from → left from ≡ 0
  to_end from le none =
      let free = skipped (length bs - from) from (omega arith) (λ k ge lt. none k (suc k) ge) in
      free ∙ at_drop_all (count_by set) bs (from + (length bs - from)) (omega arith)

  -- the single bytes of a set are cut as often as bytes of the set stand there
  pub cut-count : (n from : ℕ) → from ≤ length bs → CutTimes (single_bytes set bs) from n → n ≡ left from
  cut-count zero from le none = omega (arith, to_end from le none)
  cut-count (suc n) from le (a, e, m, rest) =
      let s = single_bytes-is set bs a e m.is in
      omega (arith, to-mark from a e m, cut-count n e (omega arith) rest)
