-- The meaning of the kind Text, and its laws. Assumes nothing.
use Rattle.std.specs.Prelude.{◌≡◌, ℕ, ◌+◌, ◌<◌, ◌≤◌, List, [], ◌∷◌, ◌++◌, map, length, take, drop}
use Rattle.std.specs.Prelude.{IsUtf8, IsCharBoundary, slice_index, slice_index_or, refl}
use Rattle.std.proofs.Common.{sym, ap, subst, ◌∙◌, arith, length-drop, take-append-drop}
use Rattle.std.proofs.Math.Utf8.{encode, encodes}
use Rattle.std.specs.Str.{chars}
use Rattle.std.proofs.lemmas.List.{take_at, take-map, length-take-le, get_or-take, get_or-drop}
use Rattle.std.proofs.lemmas.Str.{encodes-chars, chars-append, length-encode, len_utf8_bounds, IsUtf8-take, IsUtf8-drop}
use Rattle.std.proofs.lemmas.Str.{IsCharBoundary-start, IsCharBoundary-from_take, IsCharBoundary-from_rest}
use Rattle.std.specs.List.{concat}
use Rattle.utf8.specs.Table.{IsWellFormed}
use Rattle.utf8.proofs.Rows.{concat-encodes, utf8_had}
use Rattle.anystr.specs.Elements.{offset, Boundary, Occurs, OccursOnBoundaries, Filled}
use Rattle.anystr.specs.Limits.{most_bytes}
use Rattle.anystr.specs.OfBytes.{occurs-within}

-- the characters of the bytes, each encoded
abbrev pub letters : List ℕ → List (List ℕ)
letters bs = map encode (chars bs)

pub filled-encodes : (cs : List ℕ) → Filled (map encode cs)
filled-encodes [] = tt
filled-encodes (c ∷ cs) = (omega (arith, length-encode c, (len_utf8_bounds c).0), filled-encodes cs)

-- no element is empty
pub filled : (bs : List ℕ) → Filled (letters bs)
filled bs = filled-encodes (chars bs)

-- the bytes of the elements are its bytes
pub concat-letters : (bs : List ℕ) → IsUtf8 bs → concat (letters bs) ≡ bs
concat-letters bs u = concat-encodes (chars bs) ∙ encodes-chars bs u

-- a text has no more bytes than it was made of
pub few : (bs : List ℕ) → ∥ IsWellFormed bs ∥₁ → length bs ≤ most_bytes → length (concat (letters bs)) ≤ most_bytes
few bs w h = subst (λ xs. length xs ≤ most_bytes) (sym (concat-letters bs (utf8_had bs w))) h

-- the offset of an element
pub offset-letters : (bs : List ℕ) (k : ℕ) → offset (letters bs) k ≡ length (encodes (take k (chars bs)))
offset-letters bs k =
    ap (λ es. length (concat es)) (take-map encode k (chars bs)) ∙ ap length (concat-encodes (take k (chars bs)))

-- std's boundaries, where no byte within a character stands, are boundaries between elements
pub boundary : (bs : List ℕ) (p : ℕ) → IsUtf8 bs → IsCharBoundary bs p → Boundary (letters bs) p
boundary bs p u b = (length cs, offset-letters bs (length cs) ∙ ap (λ xs. length (encodes xs)) part ∙ front)
  where
    cs : List ℕ
    cs = chars (take p bs)

    formed : IsUtf8 (take p bs)
    formed = IsUtf8-take bs p u b

    split : chars bs ≡ cs ++ chars (drop p bs)
    split = ap chars (sym (take-append-drop p bs)) ∙ chars-append (take p bs) (drop p bs) formed

    part : take (length cs) (chars bs) ≡ cs
    part = ap (take (length cs)) split ∙ take_at cs (chars (drop p bs)) (length cs) refl

    front : length (encodes cs) ≡ p
    front = ap length (encodes-chars (take p bs) formed) ∙ length-take-le p bs b.0

-- where well-formed bytes stand, there are std's boundaries: no first byte goes on with a character
occurs-cut : (bs n : List ℕ) (p : ℕ) → IsUtf8 bs → IsUtf8 n → 0 < length n → Occurs bs n p
    → IsCharBoundary bs p × IsCharBoundary bs (p + length n)
occurs-cut bs n p u v h o = (start, IsCharBoundary-from_rest bs p (length n) start.0 end)
  where
    within : p + length n ≤ length bs
    within = occurs-within bs n p h o

    first : slice_index_or n 0 0 ≡ slice_index_or bs p 0
    first =
        let z : p + 0 ≡ p = omega arith in
        ap (λ xs. slice_index xs 0) (sym o) ∙ get_or-take (length n) (drop p bs) 0 0 h
        ∙ get_or-drop p bs 0 0 ∙ ap (λ k. slice_index bs k) z

    start : IsCharBoundary bs p
    start = (
      omega (arith, within),
      λ l big. subst (λ (x : ℕ). 192 ≤ x) first
          ((IsCharBoundary-start n v).1 h (subst (λ (x : ℕ). 128 ≤ x) (sym first) big)),
    )

    fits : length n ≤ length (drop p bs)
    fits = omega (arith, within, length-drop p bs)

    end : IsCharBoundary (drop p bs) (length n)
    end = IsCharBoundary-from_take (drop p bs) (length n) (IsUtf8-drop bs p u start) fits (subst IsUtf8 (sym o) v)

-- a text occurs in another from boundary to boundary
pub whole : (bs ns : List ℕ) → ∥ IsWellFormed bs ∥₁ → ∥ IsWellFormed ns ∥₁
    → OccursOnBoundaries (letters bs) (concat (letters ns))
whole bs ns wb wn p h o = (boundary bs p u cut.0, subst (λ xs. Boundary (letters bs) (p + length xs)) (sym en) end)
  where
    u : IsUtf8 bs
    u = utf8_had bs wb

    v : IsUtf8 ns
    v = utf8_had ns wn

    en : concat (letters ns) ≡ ns
    en = concat-letters ns v

    here : Occurs bs ns p
    here = subst (λ xs. Occurs bs xs p) en (subst (λ xs. Occurs xs (concat (letters ns)) p) (concat-letters bs u) o)

    cut : IsCharBoundary bs p × IsCharBoundary bs (p + length ns)
    cut = occurs-cut bs ns p u v (subst (λ xs. 0 < length xs) en h) here

    end : Boundary (letters bs) (p + length ns)
    end = boundary bs (p + length ns) u cut.1
