use Rattle.std.proofs.Common.{ℕ, ℤ, Bool, pos, negsuc, ◌↔◌, IsTrue, sym, refl, subst, arith, w64}
use Rattle.std.specs.Int.{is_negative}
use Rattle.std.proofs.lemmas.Bool.{ltb-true}
use Rattle.std.proofs.lemmas.Int.{to_z-of_z}
use Rattle.cuts.specs.Cuts.{fewer}
use Rattle.cutters.proofs.bound.unbounded.Goals as goal

-- a bound that is not negative is used up by as many cuts
below : (z : ℤ) → IsTrue (is_negative z) ↔ ((made : ℕ) → IsTrue (fewer made z))
below (pos b) = (λ h. absurd (omega (arith, ltb-true b 0 h)), λ all. absurd (omega (arith, ltb-true b b (all b))))
below (negsuc b) = (λ h made. refl, λ all. refl)

pub returns : goal.returns
returns c =
    let bound = c.args.bound in
    subst (λ (b : Bool). IsTrue b ↔ ((made : ℕ) → IsTrue (fewer made bound))) (sym c.is_negative.ensures)
    (subst (λ (z : ℤ). IsTrue (is_negative z) ↔ ((made : ℕ) → IsTrue (fewer made bound)))
    (sym (to_z-of_z w64 bound c.ranges.bound)) (below bound))
