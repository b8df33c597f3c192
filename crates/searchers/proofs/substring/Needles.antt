-- Occurrences of a needle, as the code sees them.
use Rattle.std.proofs.Common.{◌≡◌, ℕ, ◌+◌, ◌<◌, true, IsTrue, List, [], ◌∷◌, length, take, drop}
use Rattle.std.proofs.Common.{refl, sym, ap, ◌∙◌, arith, get_or-take, get_or-drop}
use Rattle.std.specs.Prelude.{slice_index}
use Rattle.std.proofs.lemmas.Bool.{eq-eqb, lt-ltb, and_from, or_left}
use Rattle.anystr.specs.Elements.{Occurs}
use Rattle.searchers.specs.bytesets.Sets.{among}
use Rattle.searchers.specs.substring.Occurrences.{begins_with, occurrence, occurrence-is}

-- bytes that begin with the needle's bytes begin with the needle
pub begun : (n bs : List ℕ) → take (length n) bs ≡ n → IsTrue (begins_with n bs)
begun [] bs e = refl
begun (x ∷ n) [] e = absurd (let l = ap length e in omega arith)
begun (x ∷ n) (b ∷ bs) e = and_from _ _ (eq-eqb b x (cc)) (begun n bs (cc))

module _ (n bs : List ℕ) (a e : ℕ) where
  -- where the bytes of a nonempty needle stand is a mark
  pub stood : 0 < length n → e ≡ a + length n → Occurs bs n a → IsTrue (occurrence n bs a e)
  stood some end occurs =
      and_from _ _ (lt-ltb 0 (length n) some) (and_from _ _ (eq-eqb e (a + length n) end) (begun n (drop a bs) occurs))

  -- and where they do not stand is none
  pub stood_not : (Occurs bs n a → ⊥) → IsTrue (occurrence n bs a e) → ⊥
  stood_not other m = other (occurrence-is n bs a e m).occurs

  -- a byte of the needle where it stands
  pub byte_at : (j k : ℕ) → j < length n → k ≡ a + j → IsTrue (occurrence n bs a e) → slice_index bs k ≡ slice_index n j
  byte_at j k lt at m =
      let o = occurrence-is n bs a e m in
      ap (slice_index bs) at
      ∙ (sym (get_or-take (length n) (drop a bs) j 0 lt ∙ get_or-drop a bs j 0) ∙ ap (λ xs. slice_index xs j) o.occurs)

-- a byte that stands where one of a set does is in the set
pub among_at : (set bs : List ℕ) (p q x : ℕ) → p ≡ q → slice_index bs q ≡ x → among set x ≡ true
    → among set (slice_index bs p) ≡ true
among_at set bs p q x there is has = ap (λ i. among set (slice_index bs i)) there ∙ (ap (among set) is ∙ has)

-- the first of some bytes is among them
pub first_among : (n : List ℕ) → 0 < length n → among n (slice_index n 0) ≡ true
first_among [] some = absurd (omega arith)
first_among (x ∷ n) some = or_left _ _ (eq-eqb x x refl)
