-- The rows of the table are the encodings of the scalar values, so the table says what the library's `Utf8` says.
use Rattle.std.proofs.Common.{◌≡◌, ℕ, ◌+◌, ◌-◌, ◌*◌, ◌/◌, ◌<◌, ◌≤◌, true, ◌⊎◌, List, [], ◌∷◌, ◌++◌, map, IsUtf8}
use Rattle.std.proofs.Common.{sym, refl, ap, ◌∙◌, subst, inl, inr, ⊎_elim, arith}
use mathlib.Core.Logic.{∥∥₁_elim}
use mathlib.Core.Bool.{Bool-set}
use mathlib.Core.List.{is_set}
use mathlib.Core.HLevel.{hedberg}
use native.Mathlib.Decide.{ℕ_discrete}
use lib.Utf8.{scalar, scalars, next, encode, encodes, scalar_cases, low_scalar}
use Rattle.std.specs.Int.{IsInRange}
use Rattle.std.specs.List.{AllByRecursion, concat}
use Rattle.std.specs.Str.{chars}
use Rattle.std.proofs.lemmas.Bool.{cases_lt, cond-true, cond-false, lt-ltb, le-ltb, le-leb, and_from, and_parts}
use Rattle.std.proofs.lemmas.Str.{encode_ascii, encodes-chars, scalars-chars}
use Rattle.utf8.specs.Table.{IsSequence, row1, row2, row3, row4, row5, row6, row7, row8, row9, IsWellFormed}

-- the bytes of a code point of two, three or four
two : (c : ℕ) → 128 ≤ c → c < 2048 → encode c ≡ (192 + c / 64) ∷ next c ∷ []
unfolding encode
two c l h = cond-false _ _ _ (le-ltb c 128 l) ∙ cond-true _ _ _ (lt-ltb c 2048 h)

three : (c : ℕ) → 2048 ≤ c → c < 65536 → encode c ≡ (224 + c / 4096) ∷ next (c / 64) ∷ next c ∷ []
unfolding encode
three c l h =
    cond-false _ _ _ (le-ltb c 128 (omega arith)) ∙ cond-false _ _ _ (le-ltb c 2048 l)
    ∙ cond-true _ _ _ (lt-ltb c 65536 h)

four : (c : ℕ) → 65536 ≤ c → encode c ≡ (240 + c / 262144) ∷ next (c / 4096) ∷ next (c / 64) ∷ next c ∷ []
unfolding encode
four c l =
    cond-false _ _ _ (le-ltb c 128 (omega arith)) ∙ cond-false _ _ _ (le-ltb c 2048 (omega arith))
    ∙ cond-false _ _ _ (le-ltb c 65536 l)

-- past the surrogates a code point is a scalar value
high_scalar : (c : ℕ) → 57344 ≤ c → c < 1114112 → scalar c ≡ true
high_scalar c l h =
    cond-false _ _ _ (le-ltb c 55296 (omega arith)) ∙ and_from _ _ (le-leb 57344 c l) (lt-ltb c 1114112 h)

-- the code point of a row's bytes
abbrev Coded : List ℕ → Type 0
Coded e = (c : ℕ) × (scalar c ≡ true) × (encode c ≡ e)

-- two, three or four bytes in their columns' ranges are those of a code point
of_two : (a b : ℕ) → IsInRange 0xC2 0xDF a → IsInRange 0x80 0xBF b → Coded (a ∷ b ∷ [])
of_two a b ia ib =
    let c = (a - 192) * 64 + (b - 128) in
    let p : 192 + c / 64 ≡ a = omega arith in
    let q : next c ≡ b = omega arith in
    (c, low_scalar c (omega arith), two c (omega arith) (omega arith) ∙ (λ k. p k ∷ q k ∷ []))

abbrev three_code : ℕ → ℕ → ℕ → ℕ
three_code a b d = (a - 224) * 4096 + (b - 128) * 64 + (d - 128)

of_three : (a b d : ℕ) → IsInRange 0xE0 0xEF a → IsInRange 0x80 0xBF b → IsInRange 0x80 0xBF d
    → 2048 ≤ three_code a b d → scalar (three_code a b d) ≡ true → Coded (a ∷ b ∷ d ∷ [])
of_three a b d ia ib id lo s =
    let c = three_code a b d in
    let p : 224 + c / 4096 ≡ a = omega arith in
    let q : next (c / 64) ≡ b = omega arith in
    let r : next c ≡ d = omega arith in
    (c, s, three c lo (omega arith) ∙ (λ k. p k ∷ q k ∷ r k ∷ []))

abbrev four_code : ℕ → ℕ → ℕ → ℕ → ℕ
four_code a b d e = (a - 240) * 262144 + (b - 128) * 4096 + (d - 128) * 64 + (e - 128)

of_four : (a b d e : ℕ) → IsInRange 0xF0 0xF4 a → IsInRange 0x80 0xBF b → IsInRange 0x80 0xBF d → IsInRange 0x80 0xBF e
    → 65536 ≤ four_code a b d e → four_code a b d e < 1114112 → Coded (a ∷ b ∷ d ∷ e ∷ [])
of_four a b d e ia ib id ie lo hi =
    let c = four_code a b d e in
    let p : 240 + c / 262144 ≡ a = omega arith in
    let q : next (c / 4096) ≡ b = omega arith in
    let m : c / 64 ≡ (a - 240) * 4096 + (b - 128) * 64 + (d - 128) = omega arith in
    let r : next (c / 64) ≡ d = subst (λ (x : ℕ). next x ≡ d) (sym m) (omega arith) in
    let t : next c ≡ e = omega arith in
    (c, high_scalar c (omega arith) hi, four c lo ∙ (λ k. p k ∷ q k ∷ r k ∷ t k ∷ []))

-- the bytes of a row are those of a code point
coded : {e : List ℕ} → IsSequence e → Coded e
coded (row1 a i) = (a, low_scalar a (omega arith), encode_ascii a (omega arith))
coded (row2 a b i j) = of_two a b i j
coded (row3 a b c i j k) =
    of_three a b c (omega arith, omega arith) (omega arith, omega arith) k
    (omega arith) (low_scalar (three_code a b c) (omega arith))
coded (row4 a b c i j k) =
    of_three a b c (omega arith, omega arith) j k (omega arith) (low_scalar (three_code a b c) (omega arith))
coded (row5 a b c i j k) =
    of_three a b c (omega arith, omega arith) (omega arith, omega arith) k
    (omega arith) (low_scalar (three_code a b c) (omega arith))
coded (row6 a b c i j k) =
    of_three a b c (omega arith, omega arith) j k (omega arith)
    (high_scalar (three_code a b c) (omega arith) (omega arith))
coded (row7 a b c d i j k l) =
    of_four a b c d (omega arith, omega arith) (omega arith, omega arith) k l (omega arith) (omega arith)
coded (row8 a b c d i j k l) = of_four a b c d (omega arith, omega arith) j k l (omega arith) (omega arith)
coded (row9 a b c d i j k l) =
    of_four a b c d (omega arith, omega arith) (omega arith, omega arith) k l (omega arith) (omega arith)

-- so are rows one after another the bytes of code points
coded-all : (es : List (List ℕ)) → AllByRecursion IsSequence es → IsUtf8 (concat es)
coded-all [] h = ([], (refl, refl))
coded-all (e ∷ es) h =
    let k = coded h.0 in
    let r = coded-all es h.1 in
    (k.0 ∷ r.0, (and_from _ _ k.1 r.1.0, (λ i. k.2 i ++ r.1.1 i)))

-- what is well formed by the table is so for the library, and the other way round
pub utf8_from_formed : (bs : List ℕ) → IsWellFormed bs → IsUtf8 bs
utf8_from_formed bs (es, h, e) = subst IsUtf8 e (coded-all es h)

-- a byte that goes on with a code point is in its column's range
follows : (c : ℕ) → IsInRange 0x80 0xBF (next c)
follows c = (omega arith, omega arith)

-- the bytes of a code point are those of a row
pub sequence : (c : ℕ) → scalar c ≡ true → IsSequence (encode c)
sequence c s = by (cases_lt c 128) (cases_lt c 2048) (cases_lt c 65536)
  where
    of3 : 2048 ≤ c → c < 65536 → IsSequence ((224 + c / 4096) ∷ next (c / 64) ∷ next c ∷ [])
    of3 l h =
        ⊎_elim (λ x. row3 _ _ _ (omega arith, omega arith) (omega arith, omega arith) (follows c))
        (λ x. ⊎_elim (λ y. row4 _ _ _ (omega arith, omega arith) (follows (c / 64)) (follows c))
        (λ y. ⊎_elim (λ z. row5 _ _ _ (omega arith, omega arith) (omega arith, omega arith) (follows c))
        (λ z. row6 _ _ _ (omega arith, omega arith) (follows (c / 64)) (follows c))
        (scalar_cases c s))
        (cases_lt c 53248))
        (cases_lt c 4096)

    top : (c < 55296) ⊎ ((57344 ≤ c) × (c < 1114112)) → c < 1114112
    top (inl h) = omega arith
    top (inr h) = h.1

    of4 : 65536 ≤ c → IsSequence ((240 + c / 262144) ∷ next (c / 4096) ∷ next (c / 64) ∷ next c ∷ [])
    of4 l =
        let t = top (scalar_cases c s) in
        ⊎_elim (λ x. row7 _ _ _ _ (omega arith, omega arith) (omega arith, omega arith) (follows (c / 64)) (follows c))
        (λ x. ⊎_elim
        (λ y. row8 _ _ _ _ (omega arith, omega arith) (follows (c / 4096)) (follows (c / 64)) (follows c))
        (λ y. row9 _ _ _ _ (omega arith, omega arith) (omega arith, omega arith) (follows (c / 64)) (follows c))
        (cases_lt c 1048576))
        (cases_lt c 262144)

    by : (c < 128) ⊎ (128 ≤ c) → (c < 2048) ⊎ (2048 ≤ c) → (c < 65536) ⊎ (65536 ≤ c) → IsSequence (encode c)
    by (inl h) _ _ = subst IsSequence (sym (encode_ascii c h)) (row1 c (omega arith, omega arith))
    by (inr l) (inl h) _ = subst IsSequence (sym (two c l h)) (row2 _ _ (omega arith, omega arith) (follows c))
    by (inr _) (inr l) (inl h) = subst IsSequence (sym (three c l h)) (of3 l h)
    by (inr _) (inr _) (inr l) = subst IsSequence (sym (four c l)) (of4 l)

-- the bytes of each code point are those of a row
pub sequences : (cs : List ℕ) → scalars cs ≡ true → AllByRecursion IsSequence (map encode cs)
sequences [] s = tt
sequences (c ∷ cs) s = let p = and_parts _ _ s in (sequence c p.0, sequences cs p.1)

pub concat-encodes : (cs : List ℕ) → concat (map encode cs) ≡ encodes cs
concat-encodes [] = refl
concat-encodes (c ∷ cs) = ap (λ r. encode c ++ r) (concat-encodes cs)

pub formed-from_utf8 : (bs : List ℕ) → IsUtf8 bs → IsWellFormed bs
formed-from_utf8 bs (cs, (s, e)) = (map encode cs, sequences cs s, concat-encodes cs ∙ e)

-- the characters come out of the bare fact that there are some
pub utf8_had : (bs : List ℕ) → ∥ IsWellFormed bs ∥₁ → IsUtf8 bs
utf8_had bs w = (
  chars bs,
  (
    ∥∥₁_elim w (Bool-set (scalars (chars bs)) true) (λ f. scalars-chars bs (utf8_from_formed bs f)),
    ∥∥₁_elim w (is_set (hedberg ℕ_discrete) (encodes (chars bs)) bs) (λ f. encodes-chars bs (utf8_from_formed bs f)),
  ),
)
