-- Elements of a Text, by offset.
use Rattle.std.proofs.Common.{◌≡◌, ℕ, zero, suc, ◌+◌, ◌-◌, ◌<◌, true, List, [], ◌∷◌, ◌++◌, map, length}
use Rattle.std.proofs.Common.{get_or, take, drop, IsUtf8, IsCharBoundary}
use Rattle.std.proofs.Common.{sym, refl, ap, subst, ◌∙◌, arith, length-append, take-append-drop}
use lib.Utf8.{scalars, encode, encodes}
use Rattle.std.specs.Str.{chars}
use Rattle.std.proofs.lemmas.List.{length-map, map-append, get_or_at, take_at, length-take-le}
use Rattle.std.proofs.lemmas.Bool.{and_parts}
use Rattle.std.proofs.lemmas.Str.{length-encode, len_utf8_bounds, encodes-append, encodes-chars, scalars-chars}
use Rattle.std.proofs.lemmas.Str.{chars-append, chars_past_char, chars-nil}
use Rattle.std.proofs.lemmas.Str.{IsUtf8-take, IsUtf8-drop, IsUtf8-between, IsCharBoundary-at_seam}
use Rattle.anystr.specs.Elements.{offset, Boundary, Cut, Part}
use Rattle.anystr.proofs.Parts.{part-from_split, split, size}
use Rattle.text.specs.OfText.{letters, offset-letters, concat-letters}

pub letters-nil : letters [] ≡ []
letters-nil = ap (map encode) chars-nil

pub length-letters : (bs : List ℕ) → length (letters bs) ≡ length (chars bs)
length-letters bs = length-map (chars bs) encode

scalars_drop : (k : ℕ) (cs : List ℕ) → scalars cs ≡ true → scalars (drop k cs) ≡ true
scalars_drop zero cs s = s
scalars_drop (suc k) [] s = s
scalars_drop (suc k) (c ∷ cs) s = scalars_drop k cs (and_parts _ _ s).1

-- the boundaries between elements are std's: no byte within a character stands there
pub boundary_back : (bs : List ℕ) (p : ℕ) → IsUtf8 bs → Boundary (letters bs) p → IsCharBoundary bs p
boundary_back bs p u (k, e) = subst (IsCharBoundary bs) (sym (offset-letters bs k) ∙ e) at
  where
    cs : List ℕ
    cs = chars bs

    split : bs ≡ encodes (take k cs) ++ encodes (drop k cs)
    split = sym (encodes-chars bs u) ∙ ap encodes (sym (take-append-drop k cs)) ∙ encodes-append (take k cs) (drop k cs)

    at : IsCharBoundary bs (length (encodes (take k cs)))
    at = IsCharBoundary-at_seam bs (encodes (take k cs)) (encodes (drop k cs)) split
        (drop k cs, (scalars_drop k cs (scalars-chars bs u), refl))

-- the characters before one take fewer bytes than all
before : (k : ℕ) (cs : List ℕ) → k < length cs → length (encodes (take k cs)) < length (encodes cs)
before k [] h = absurd (omega arith)
before zero (c ∷ cs) h = omega (arith, length-append (encode c) (encodes cs), length-encode c, (len_utf8_bounds c).0)
before (suc k) (c ∷ cs) h =
    let all = length-append (encode c) (encodes cs) in
    let some = length-append (encode c) (encodes (take k cs)) in
    omega (arith, all, some, before k cs (omega arith))

-- an element begins before the end
pub begins-within : (bs : List ℕ) (k : ℕ) → IsUtf8 bs → k < length (letters bs) → offset (letters bs) k < length bs
begins-within bs k u h =
    let ahead = before k (chars bs) (omega (arith, length-letters bs)) in
    omega (arith, length-letters bs, offset-letters bs k, ap length (encodes-chars bs u), ahead)

-- the element of a character that begins at an offset
pub element : (bs rest : List ℕ) (at c : ℕ) → IsUtf8 bs → IsCharBoundary bs at → drop at bs ≡ encode c ++ rest
    → (k : ℕ) × (k < length (letters bs)) × (offset (letters bs) k ≡ at) × (get_or (letters bs) k [] ≡ encode c)
element bs rest at c u b e = (length cs, inside, begins, is)
  where
    front : List ℕ
    front = take at bs

    formed : IsUtf8 front
    formed = IsUtf8-take bs at u b

    cs : List ℕ
    cs = chars front

    split : chars bs ≡ cs ++ c ∷ chars rest
    split =
        ap chars (sym (take-append-drop at bs)) ∙ chars-append front (drop at bs) formed
        ∙ ap (λ xs. cs ++ xs) (chars_past_char (drop at bs) rest c (IsUtf8-drop bs at u b) e)

    inside : length cs < length (letters bs)
    inside = omega (arith, length-letters bs, ap length split, length-append cs (c ∷ chars rest))

    part : take (length cs) (chars bs) ≡ cs
    part = ap (take (length cs)) split ∙ take_at cs (c ∷ chars rest) (length cs) refl

    begins : offset (letters bs) (length cs) ≡ at
    begins =
        offset-letters bs (length cs) ∙ ap (λ xs. length (encodes xs)) part ∙ ap length (encodes-chars front formed)
        ∙ length-take-le at bs b.0

    is : get_or (letters bs) (length cs) [] ≡ encode c
    is =
        ap (λ xs. get_or (map encode xs) (length cs) []) split
        ∙ ap (λ xs. get_or xs (length cs) []) (map-append encode cs (c ∷ chars rest))
        ∙ get_or_at (map encode cs) (encode c) (map encode (chars rest)) [] (length cs) (length-map cs encode)

letters-append : (xs ys : List ℕ) → IsUtf8 xs → letters (xs ++ ys) ≡ letters xs ++ letters ys
letters-append xs ys u = ap (map encode) (chars-append xs ys u) ∙ map-append encode (chars xs) (chars ys)

-- the bytes between two boundaries are well formed
pub formed-between : (bs : List ℕ) (a b : ℕ) → IsUtf8 bs → Cut (letters bs) a b → IsUtf8 (take (b - a) (drop a bs))
formed-between bs a b u k =
    IsUtf8-between bs a b u k.order (boundary_back bs a u k.start) (boundary_back bs b u k.end)

-- the elements from one boundary to another are those of the bytes between
pub part-letters : (bs : List ℕ) (a b : ℕ) → IsUtf8 bs → Cut (letters bs) a b
    → Part (letters bs) (letters (take (b - a) (drop a bs))) a b
part-letters bs a b u k =
    let f = take a bs in
    let m = take (b - a) (drop a bs) in
    let r = drop (b - a) (drop a bs) in
    let start = boundary_back bs a u k.start in
    let end = boundary_back bs b u k.end in
    let uf = IsUtf8-take bs a u start in
    let um = formed-between bs a b u k in
    part-from_split (letters bs) (letters f) (letters m) (letters r) a b
    (ap letters (split bs a b) ∙ (letters-append f (m ++ r) uf ∙ ap (λ l. letters f ++ l) (letters-append m r um)))
    (ap length (concat-letters f uf) ∙ length-take-le a bs start.0)
    (ap (λ l. a + length l) (concat-letters m um) ∙ size bs a b k.order end.0)
