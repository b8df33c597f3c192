-- The first whitespace that a search finds is the end of the word before it.
use Rattle.std.proofs.Common.{◌≡◌, ℕ, suc, ◌+◌, ◌-◌, ◌<◌, ◌≤◌, true, false, IsTrue, List}
use Rattle.std.proofs.Common.{length, get_or, drop, refl, ap, ◌∙◌, ⊎_elim, arith, length-drop}
use Rattle.std.specs.Bool.{beq}
use Rattle.std.proofs.lemmas.Bool.{cases_Bool, eq-eqb, lt-ltb, and_from}
use Rattle.std.proofs.lemmas.List.{get_or-drop}
use Rattle.std.proofs.lemmas.List.Sums.{prefix_len_is}
use Rattle.searchers.specs.Marks.{Least, NoneFrom}
use Rattle.searchers.specs.bytesets.Sets.{single_bytes, single_bytes-is}
use Rattle.bytesinner.specs.words.Words.{is_space, stretch_len}

module _ (bs : List ℕ) (start : ℕ) where
  -- a byte that is no mark is no whitespace
  bare : (k : ℕ) → start + k < length bs → (IsTrue (single_bytes is_space bs (start + k) (suc (start + k))) → ⊥)
      → beq false (is_space (get_or (drop start bs) k 0)) ≡ true
  bare k lt unmarked =
      let at = start + k in
      ap (λ b. beq false (is_space b)) (get_or-drop start bs k 0)
      ∙ ⊎_elim
      (λ has.
      absurd (unmarked (and_from _ _ (lt-ltb at (length bs) lt) (and_from _ _ (eq-eqb (suc at) (suc at) refl) has))))
      (λ has. ap (beq false) has)
      (cases_Bool (is_space (get_or bs at 0)))

  -- up to the first whitespace from the start on stands none
  pub word_before : (a e : ℕ) → Least (single_bytes is_space bs) start a e
      → a ≡ start + stretch_len (drop start bs) false
  word_before a e least =
      let after = least.after in
      let s = single_bytes-is is_space bs a e least.is in
      let within = s.within in
      let there : start + (a - start) ≡ a = omega arith in
      let stops = ap (λ b. beq false (is_space b)) (get_or-drop start bs (a - start) 0)
      ∙ ap (λ k. beq false (is_space (get_or bs k 0))) there ∙ ap (beq false) s.has in
      let len = prefix_len_is (λ b. beq false (is_space b)) (drop start bs) (a - start) 0
      (omega (arith, length-drop start bs))
      (λ k lt.
      bare k (omega arith) (λ m. let past = least.least (start + k) (suc (start + k)) (omega arith) m in omega arith))
      (λ _. stops) in
      omega (arith, len)

  -- where there is none, no byte from there on is whitespace
  pub word_whole : start ≤ length bs → NoneFrom (single_bytes is_space bs) start
      → length bs ≡ start + stretch_len (drop start bs) false
  word_whole le none =
      let long = length-drop start bs in
      let len = prefix_len_is (λ b. beq false (is_space b)) (drop start bs) (length bs - start) 0 (omega (arith, long))
      (λ k lt. bare k (omega arith) (none (start + k) (suc (start + k)) (omega arith)))
      (λ lt. absurd (omega (arith, long))) in
      omega (arith, len)
