-- Texts of bytes, by index and by offset.
use Rattle.std.proofs.Common.{◌≡◌, ℕ, zero, suc, ◌<◌, ◌≤◌, List, [], ◌∷◌, ◌++◌, length, refl, ap, arith, length-take}
use Rattle.std.specs.Prelude.{slice_index, slice_index_or}
use Rattle.anystr.specs.Elements.{Boundary}
use Rattle.anystr.specs.OfBytes.{singles, offset-singles}

-- a boundary is not past the end
pub within : (bs : List ℕ) (p : ℕ) → Boundary (singles bs) p → p ≤ length bs
within bs p (k, e) = omega (arith, offset-singles k bs, length-take k bs)

pub length-singles : (bs : List ℕ) → length (singles bs) ≡ length bs
length-singles [] = refl
length-singles (b ∷ bs) = ap suc (length-singles bs)

pub get_or-singles : (bs : List ℕ) (k : ℕ) → k < length bs → slice_index_or (singles bs) k [] ≡ slice_index bs k ∷ []
get_or-singles [] k h = absurd (omega arith)
get_or-singles (b ∷ bs) zero h = refl
get_or-singles (b ∷ bs) (suc k) h = get_or-singles bs k (omega arith)

pub singles-append : (xs ys : List ℕ) → singles (xs ++ ys) ≡ singles xs ++ singles ys
singles-append [] ys = refl
singles-append (x ∷ xs) ys = ap (λ r. (x ∷ []) ∷ r) (singles-append xs ys)
