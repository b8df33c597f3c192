-- The element that begins at an offset, by its index.
use Rattle.std.proofs.Common.{◌≡◌, ℕ, zero, suc, ◌+◌, ◌-◌, ◌<◌, ◌≤◌, leb, List, [], ◌∷◌, ◌++◌, length, get_or, take}
use Rattle.std.proofs.Common.{Some, None, sym, refl, ap, ◌∙◌, ⊎_elim, arith, length-append}
use Rattle.std.specs.List.{concat}
use Rattle.std.proofs.lemmas.Bool.{cond-true, cond-false, le-leb, leb-true, ne_eqb, cases_eq, cases_Bool}
use Rattle.anystr.specs.Elements.{offset, element_at, Filled}

-- no element is empty
pub filled_at : (es : List (List ℕ)) (k : ℕ) → Filled es → k < length es → 0 < length (get_or es k [])
filled_at [] k f h = absurd (omega arith)
filled_at (e ∷ es) zero f h = f.0
filled_at (e ∷ es) (suc k) f h = filled_at es k f.1 (omega arith)

-- where an element begins, it is the one that is given
pub begins : (es : List (List ℕ)) (k : ℕ) → Filled es → k < length es
    → element_at es (offset es k) ≡ Some (get_or es k [])
begins [] k f h = absurd (omega arith)
begins (e ∷ es) zero f h = refl
begins (e ∷ es) (suc k) f h =
    let some = f.0 in
    let at : ℕ = length (e ++ concat (take k es)) in
    let p : at ≡ length e + offset es k = length-append e (concat (take k es)) in
    let back : at - length e ≡ offset es k = omega arith in
    let later = begins es k f.1 (omega arith) in
    cond-false _ _ _ (ne_eqb at 0 (λ z. omega arith)) ∙ cond-true _ _ _ (le-leb (length e) at (omega arith))
    ∙ (ap (element_at es) back ∙ later)

-- where none begins, none is given
pub none-begins : (es : List (List ℕ)) (p : ℕ) → ((k : ℕ) → k < length es → ¬ (offset es k ≡ p))
    → element_at es p ≡ None
none-begins [] p free = refl
none-begins (e ∷ es) p free = ⊎_elim
    (λ z. absurd (free 0 (omega arith) (sym z)))
    (λ nz. cond-false _ _ _ (ne_eqb p 0 nz) ∙ ⊎_elim
    (λ t. cond-true _ _ _ t ∙ none-begins es (p - length e) (behind (leb-true (length e) p t)))
    (λ t. cond-false _ _ _ t)
    (cases_Bool (leb (length e) p)))
    (cases_eq p 0)
  where
    behind : length e ≤ p → (k : ℕ) → k < length es → ¬ (offset es k ≡ p - length e)
    behind le k h q = free (suc k) (omega arith) (omega (arith, length-append e (concat (take k es))))
