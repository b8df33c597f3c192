-- The cuts at a needle of one byte: as many as the byte stands there.
use Rattle.std.proofs.Common.{◌≡◌, ℕ, zero, suc, ◌+◌, Bool, cond, IsTrue, List, [], ◌∷◌, length, count_by, drop, take}
use Rattle.std.proofs.Common.{ap, ◌∙◌, subst, sym, arith, ⊎_elim, length-drop}
use Rattle.std.specs.Prelude.{◌==◌, slice_index}
use Rattle.std.proofs.Math.Seq.{drop-cons}
use Rattle.std.proofs.lemmas.List.{nil_from_length}
use Rattle.std.proofs.lemmas.Bool.{cases_Bool, cases_eq, both_ways, eq-eqb, eqb-true}
use Rattle.std.proofs.lemmas.List.Sums.{sum_by-cons}
use Rattle.searchers.specs.Marks.{Marks, CutTimes}
use Rattle.searchers.specs.substring.Occurrences.{occurrence, fits}
use Rattle.searchers.proofs.substring.Needles.{stood, byte_at}

-- the cuts from one place on are those from the next, where no mark begins
passed : (marks : Marks) (i m : ℕ) → ((e : ℕ) → IsTrue (marks i e) → ⊥) → CutTimes marks (suc i) m → CutTimes marks i m
passed marks i zero clear none = λ p e ge t.
    ⊎_elim (λ same. clear e (subst (λ (q : ℕ). IsTrue (marks q e)) same t)) (λ other. none p e (omega arith) t)
    (cases_eq p i)
passed marks i (suc m) clear (s, e, least, rest) = (
  s,
  e,
  record {
    after = omega (arith, least.after);
    is = least.is;
    least = λ p d ge t.
        ⊎_elim (λ same. absurd (clear d (subst (λ (q : ℕ). IsTrue (marks q d)) same t)))
        (λ other. least.least p d (omega arith) t) (cases_eq p i);
  },
  rest,
)

module _ (b : ℕ) (bs : List ℕ) where
  -- where the byte stands is a mark
  stands : (i : ℕ) (rest : List ℕ) → drop i bs ≡ b ∷ rest → IsTrue (occurrence (b ∷ []) bs i (suc i))
  stands i rest is = stood (b ∷ []) bs i (suc i) (omega arith) (omega arith) (ap (take 1) is)

  -- each place where it stands is cut
  pub cut_times : (k i : ℕ) → i + k ≡ length bs
      → CutTimes (occurrence (b ∷ []) bs) i (count_by (λ x. x == b) (drop i bs))
  cut_times zero i whole =
      let none : drop i bs ≡ [] = nil_from_length (drop i bs) (omega (arith, length-drop i bs)) in
      subst (CutTimes (occurrence (b ∷ []) bs) i) (sym (ap (count_by (λ x. x == b)) none))
      (λ p e ge t. let fit = fits (b ∷ []) bs p e t in omega arith)
  cut_times (suc k) i whole =
      let x = slice_index bs i in
      let rest = count_by (λ y. y == b) (drop (suc i) bs) in
      let later = cut_times k (suc i) (omega arith) in
      let split : drop i bs ≡ x ∷ drop (suc i) bs = drop-cons bs i 0 (omega arith) in
      let counts = ap (count_by (λ y. y == b)) split ∙ sum_by-cons (λ y. cond (y == b) 1 0) x (drop (suc i) bs) in
      ⊎_elim
      (λ here.
      let more : suc rest ≡ count_by (λ y. y == b) (drop i bs) =
      let u = ap (λ (t : Bool). cond {A = ℕ} t 1 0) here in omega arith in
      let is : drop i bs ≡ b ∷ drop (suc i) bs = split ∙ ap (λ y. y ∷ drop (suc i) bs) (eqb-true x b here) in
      subst (CutTimes (occurrence (b ∷ []) bs) i) more (
        i,
        suc i,
        record { after = omega arith; is = stands i (drop (suc i) bs) is; least = λ p d ge t. ge },
        later,
      ))
      (λ gone.
      let same : rest ≡ count_by (λ y. y == b) (drop i bs) =
      let u = ap (λ (t : Bool). cond {A = ℕ} t 1 0) gone in omega arith in
      subst (CutTimes (occurrence (b ∷ []) bs) i) same
      (passed (occurrence (b ∷ []) bs) i rest
      (λ e t. both_ways _ gone (eq-eqb _ _ (byte_at (b ∷ []) bs i e 0 i (omega arith) (omega arith) t))) later))
      (cases_Bool (x == b))
