-- The meaning of the kind Bytes, and its laws. Assumes nothing.
use Rattle.std.specs.Prelude.{◌≡◌, ℕ, zero, suc, ◌+◌, ◌<◌, ◌≤◌, List, [], ◌∷◌, length, take, drop, refl}
use Rattle.std.proofs.Common.{ap, sym, subst, ◌∙◌, arith, length-take, length-drop}
use Rattle.std.proofs.lemmas.List.{length-take-le}
use Rattle.std.specs.List.{concat}
use Rattle.anystr.specs.Elements.{Boundary, Occurs, OccursOnBoundaries, Filled, offset}
use Rattle.anystr.specs.Limits.{most_bytes}

-- each byte is an element
abbrev pub singles : List ℕ → List (List ℕ)
singles [] = []
singles (b ∷ bs) = (b ∷ []) ∷ singles bs

-- the bytes of the elements are its bytes
pub concat-singles : (bs : List ℕ) → concat (singles bs) ≡ bs
concat-singles [] = refl
concat-singles (b ∷ bs) = ap (λ r. b ∷ r) (concat-singles bs)

-- a text has no more bytes than it was made of
pub few : (bs : List ℕ) → length bs ≤ most_bytes → length (concat (singles bs)) ≤ most_bytes
few bs h = subst (λ xs. length xs ≤ most_bytes) (sym (concat-singles bs)) h

-- no element is empty
pub filled : (bs : List ℕ) → Filled (singles bs)
filled [] = tt
filled (b ∷ bs) = (omega arith, filled bs)

pub take-singles : (k : ℕ) (bs : List ℕ) → take k (singles bs) ≡ singles (take k bs)
take-singles zero bs = refl
take-singles (suc k) [] = refl
take-singles (suc k) (b ∷ bs) = ap (λ r. (b ∷ []) ∷ r) (take-singles k bs)

-- the offset of an element
pub offset-singles : (k : ℕ) (bs : List ℕ) → offset (singles bs) k ≡ length (take k bs)
offset-singles k bs = ap (λ es. length (concat es)) (take-singles k bs) ∙ ap length (concat-singles (take k bs))

-- every offset is a boundary
pub boundary : (bs : List ℕ) (p : ℕ) → p ≤ length bs → Boundary (singles bs) p
boundary bs p h = (p, offset-singles p bs ∙ length-take-le p bs h)

-- bytes that stand in others end in them
pub occurs-within : (bs n : List ℕ) (p : ℕ) → 0 < length n → Occurs bs n p → p + length n ≤ length bs
occurs-within bs n p h o = omega (arith, length-take (length n) (drop p bs), length-drop p bs, ap length o)

-- a text occurs in another from boundary to boundary
pub whole : (bs ns : List ℕ) → OccursOnBoundaries (singles bs) (concat (singles ns))
whole bs ns p h o =
    let w = occurs-within (concat (singles bs)) (concat (singles ns)) p h o in
    let e = ap length (concat-singles bs) in
    (boundary bs p (omega arith), boundary bs (p + length (concat (singles ns))) (omega arith))
