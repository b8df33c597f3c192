-- Places in a text: what the tests of boundaries and of places say.
use Rattle.std.proofs.Common.{◌≡◌, ℕ, suc, ◌-◌, true, List, ◌∷◌, length, drop, Some, ⊎_elim, arith}
use Rattle.std.proofs.Common.{length-drop, length-take}
use Rattle.std.specs.List.{concat}
use Rattle.std.proofs.lemmas.Bool.{cond-true, cond-false, le-leb, leb-true, and_parts, and_from, cases_Bool}
use Rattle.anystr.specs.Elements.{Cut}
use Rattle.anystr.proofs.Boundaries.{boundary_from, boundary_true, offset-within}
use Rattle.bytesinner.specs.joins.Joins.{can_cut, first_bad}
use Rattle.anystr.specs.Places.{part}

-- a place that passes the test can be cut out, and one that can passes
pub cut_from : (es : List (List ℕ)) (p : ℕ × ℕ) → can_cut es p ≡ true → Cut es p.0 p.1
cut_from es p h =
    let t = and_parts _ _ h in
    let u = and_parts _ _ t.1 in
    record { order = leb-true _ _ t.0; start = boundary_from es p.0 u.0; end = boundary_from es p.1 u.1 }

pub cut-true : (es : List (List ℕ)) (p : ℕ × ℕ) → Cut es p.0 p.1 → can_cut es p ≡ true
cut-true es p c =
    and_from _ _ (le-leb _ _ c.order) (and_from _ _ (boundary_true es p.0 c.start) (boundary_true es p.1 c.end))

-- a good place is passed over
pub passes : (es : List (List ℕ)) (at : ℕ) (p : ℕ × ℕ) (ps : List (ℕ × ℕ)) → Cut es p.0 p.1
    → first_bad es at (p ∷ ps) ≡ first_bad es (suc at) ps
passes es at p ps c = cond-true _ _ _ (cut-true es p c)

-- a bad one is the first
pub stops : (es : List (List ℕ)) (at : ℕ) (p : ℕ × ℕ) (ps : List (ℕ × ℕ)) → (Cut es p.0 p.1 → ⊥)
    → first_bad es at (p ∷ ps) ≡ Some at
stops es at p ps bad =
    ⊎_elim (λ t. absurd (bad (cut_from es p t))) (λ f. cond-false _ _ _ f) (cases_Bool (can_cut es p))

-- the bytes of a place that can be cut out
pub part-long : (es : List (List ℕ)) (a e : ℕ) → Cut es a e → length (part (concat es) (a, e)) ≡ e - a
part-long es a e c =
    omega (
      arith,
      c.order,
      offset-within es c.end.0,
      c.end.1,
      length-take (e - a) (drop a (concat es)),
      length-drop a (concat es),
    )
