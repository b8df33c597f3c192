-- Boundaries of a text.
use Rattle.std.proofs.Common.{◌≡◌, ℕ, zero, suc, ◌-◌, ◌≤◌, true, ◌&&◌, eqb, leb, List, [], ◌∷◌, ◌++◌, length}
use Rattle.std.proofs.Common.{take, drop, sym, ap, ◌∙◌, ⊎_elim, arith, length-append, take-append-drop}
use Rattle.std.specs.List.{concat}
use Rattle.std.proofs.lemmas.List.{take_all}
use Rattle.std.proofs.lemmas.List.Folds.{concat-append}
use Rattle.std.proofs.lemmas.Bool.{cond-true, cond-false, le-leb, leb-true, eq-eqb, eqb-true, ne_eqb}
use Rattle.std.proofs.lemmas.Bool.{and_parts, and_from, cases_eq}
use Rattle.anystr.specs.Elements.{offset, Boundary, on_boundary}

-- the test of a boundary passes exactly at one
pub boundary_from : (es : List (List ℕ)) (p : ℕ) → on_boundary es p ≡ true → Boundary es p
boundary_from [] p h = (0, sym (eqb-true p 0 h))
boundary_from (e ∷ es) p h = ⊎_elim
    (λ z. (0, sym z))
    (λ nz.
    let later = leb (length e) p && on_boundary es (p - length e) in
    let t = and_parts _ _ (sym (cond-false (eqb p 0) true later (ne_eqb p 0 nz)) ∙ h) in
    let le = leb-true (length e) p t.0 in
    let b = boundary_from es (p - length e) t.1 in
    (suc b.0, omega (arith, length-append e (concat (take b.0 es)), b.1)))
    (cases_eq p 0)

pub boundary_true : (es : List (List ℕ)) (p : ℕ) → Boundary es p → on_boundary es p ≡ true
boundary_true [] p (zero, e) = eq-eqb p 0 (sym e)
boundary_true [] p (suc k, e) = eq-eqb p 0 (sym e)
boundary_true (e ∷ es) p (zero, is) = cond-true _ _ _ (eq-eqb p 0 (sym is))
boundary_true (e ∷ es) p (suc k, is) = ⊎_elim
    (λ z. cond-true _ _ _ (eq-eqb p 0 z))
    (λ nz.
    let l = length-append e (concat (take k es)) in
    let rest = boundary_true es (p - length e) (k, omega arith) in
    cond-false _ _ _ (ne_eqb p 0 nz) ∙ and_from _ _ (le-leb (length e) p (omega arith)) rest)
    (cases_eq p 0)

-- the bytes before and behind an element
pub cut-joined : (k : ℕ) (es : List (List ℕ)) → concat es ≡ concat (take k es) ++ concat (drop k es)
cut-joined k es = ap concat (sym (take-append-drop k es)) ∙ concat-append (take k es) (drop k es)

-- the offset of an element is within the text
pub offset-within : (es : List (List ℕ)) (k : ℕ) → offset es k ≤ length (concat es)
offset-within es k = omega (arith, ap length (cut-joined k es), length-append (concat (take k es)) (concat (drop k es)))

-- the end of a text is a boundary
pub end_on : (es : List (List ℕ)) → Boundary es (length (concat es))
end_on es = (length es, ap (λ xs. length (concat xs)) (take_all (length es) es (omega arith)))
