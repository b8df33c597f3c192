-- What is shown of a text is read back.
use Rattle.std.proofs.Common.{◌≡◌, ◌≢◌, ℕ, ◌+◌, ◌*◌, ◌/◌, ◌%◌, ◌<◌, true}
use Rattle.std.proofs.Common.{List, [], ◌∷◌}
use Rattle.std.proofs.Common.{◌++◌, length, get_or, All, Some, Ok, Err, Result, sym, refl, ap, ◌∙◌}
use Rattle.std.proofs.Common.{arith, eqb}
use Rattle.std.specs.List.{concat}
use Rattle.std.proofs.lemmas.Bool.{cond_both, cond-false}
use Rattle.std.proofs.lemmas.Bool.{eqb-true}
use Rattle.std.proofs.lemmas.Bool.{ne_eqb}
use Rattle.std.proofs.lemmas.Bool.Decides.{nat_tests}
use Rattle.std.proofs.lemmas.List.Elements.{All-head, All-tail, All-from_get_or}
use Rattle.std.proofs.Math.Nat.{div-add-mod}
use Rattle.sheets.specs.Apart.{IsApart}
use Rattle.sheets.specs.Escapes.{before, digit, of_digits, named, read_past, taken}
use Rattle.sheets.specs.Escapes.{unescaped}
use Rattle.sheets.specs.Shown.{hex, is_plain, spelled, shown_byte, shown_element, shown}
use Rattle.sheets.specs.declared.read.EscapeError.{EscapeError}
use Rattle.sheets.proofs.Plain.{plain-other}
use Rattle.sheets.proofs.Reading.{before-append}

before-nil : (r : Result (List ℕ) EscapeError) → before [] r ≡ r
before-nil (Ok bs) = refl
before-nil (Err e) = refl

-- a digit that is shown is read back
digit-hex : (n : ℕ) → n < 16 → digit (hex n) ≡ Some n
digit-hex n lt = grind (arith, nat_tests)

-- a byte that is no backslash names itself
read-plain : (b : ℕ) (rest : List ℕ) → b ≢ 92 → unescaped (b ∷ rest) ≡ before (b ∷ []) (unescaped rest)
read-plain b rest ne = ap (λ r. named r (read_past (taken r) rest)) (cond-false _ _ _ (ne_eqb b 92 ne))

-- so do several
read-plains : (bs rest : List ℕ) → All (λ b. b ≢ 92) bs → unescaped (bs ++ rest) ≡ before bs (unescaped rest)
read-plains [] rest none = sym (before-nil (unescaped rest))
read-plains (b ∷ bs) rest none =
    read-plain b (bs ++ rest) (All-head (λ n. n ≢ 92) b bs none)
    ∙ (ap (before (b ∷ [])) (read-plains bs rest (All-tail (λ n. n ≢ 92) b bs none))
    ∙ before-append (b ∷ []) bs (unescaped rest))

-- `\x` with two digits names the byte that they spell
read-hex : (b : ℕ) (rest : List ℕ) → b < 256
    → unescaped (92 ∷ 120 ∷ hex (b / 16) ∷ hex (b % 16) ∷ rest) ≡ before (b ∷ []) (unescaped rest)
read-hex b rest lt =
    let high : digit (hex (b / 16)) ≡ Some (b / 16) = digit-hex (b / 16) (omega arith) in
    let low : digit (hex (b % 16)) ≡ Some (b % 16) = digit-hex (b % 16) (omega arith) in
    let whole : 16 * (b / 16) + b % 16 ≡ b = div-add-mod b 16 in
    let spelled : of_digits (digit (hex (b / 16))) (digit (hex (b % 16))) ≡ Ok (b, 3) =
    ap (λ d. of_digits d (digit (hex (b % 16)))) high
    ∙ (ap (of_digits (Some (b / 16))) low ∙ ap (λ n. Ok (n, 3)) whole) in
    ap (λ r. named r (read_past (taken r) (120 ∷ hex (b / 16) ∷ hex (b % 16) ∷ rest))) spelled

-- a byte as it is shown names itself
read-shown_byte : (b : ℕ) (rest : List ℕ) → b < 256
    → unescaped (shown_byte b ++ rest) ≡ before (b ∷ []) (unescaped rest)
read-shown_byte b rest lt =
    cond_both (is_plain b) (b ∷ []) (spelled b) Back (λ plain. read-plain b rest (plain-other b plain))
    (λ _. cond_both (eqb b 9) _ _ Back (λ is. at 9 is)
    (λ _. cond_both (eqb b 10) _ _ Back (λ is. at 10 is)
    (λ _. cond_both (eqb b 13) _ _ Back (λ is. at 13 is)
    (λ _. cond_both (eqb b 92) _ (92 ∷ 120 ∷ hex (b / 16) ∷ hex (b % 16) ∷ []) Back (λ is. at 92 is)
    (λ _. read-hex b rest lt)))))
  where
    Back : List ℕ → Type 0
    Back bs = unescaped (bs ++ rest) ≡ before (b ∷ []) (unescaped rest)

    at : (k : ℕ) → eqb b k ≡ true → before (k ∷ []) (unescaped rest) ≡ before (b ∷ []) (unescaped rest)
    at k is = ap (λ n. before (n ∷ []) (unescaped rest)) (sym (eqb-true b k is))

-- so does an element, if it has no byte below 128 beside others
read-shown_element : (e rest : List ℕ) → IsApart e → unescaped (shown_element e ++ rest) ≡ before e (unescaped rest)
read-shown_element [] rest apart = sym (before-nil (unescaped rest))
read-shown_element (b ∷ []) rest apart = read-shown_byte b rest (All-head (λ n. n < 256) b [] apart.bytes)
read-shown_element (b ∷ c ∷ bs) rest apart = read-plains e rest (All-from_get_or (λ n. n ≢ 92) e 0 none)
  where
    e : List ℕ
    e = b ∷ c ∷ bs

    none : (i : ℕ) → i < length e → get_or e i 0 ≢ 92
    none i lt is = absurd (omega (arith, apart.alone i lt (omega arith)))

-- what is shown of a text is read back
pub read-shown : (es : List (List ℕ)) → All IsApart es → unescaped (shown es) ≡ Ok (concat es)
read-shown [] apart = refl
read-shown (e ∷ es) apart =
    read-shown_element e (shown es) (All-head IsApart e es apart)
    ∙ ap (before e) (read-shown es (All-tail IsApart e es apart))
