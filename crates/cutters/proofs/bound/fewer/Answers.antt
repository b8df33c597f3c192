use Rattle.std.proofs.Common.{◌≡◌, ℕ, ℤ, pos, negsuc, false, sym, refl, ap, ◌∙◌, w64, nat_lt}
use mathlib.Core.Bool.{false≢true}
use lib.IntN.{nat_abs}
use lib.Signed.{lt_z}
use Rattle.std.proofs.lemmas.Int.{to_z-of_z}
use Rattle.cuts.specs.Cuts.{fewer}
use Rattle.cutters.proofs.bound.fewer.Goals as goal

below-bound : (n : ℕ) (z : ℤ) → lt_z z (pos 0) ≡ false → nat_lt n (nat_abs z) ≡ fewer n z
below-bound n (pos b) some = refl
below-bound n (negsuc b) some = absurd (false≢true (sym some))

pub returns-else-bound-lt0 : goal.returns-else-bound-lt0
returns-else-bound-lt0 c =
    let is = to_z-of_z w64 c.args.bound c.ranges.bound in
    ap (λ z. nat_lt c.args.made (nat_abs z)) is
    ∙ below-bound c.args.made c.args.bound (ap (λ z. lt_z z (pos 0)) (sym is) ∙ c.if-bound-lt0.false)
