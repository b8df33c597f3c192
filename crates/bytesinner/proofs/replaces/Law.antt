-- The law of replace.
use Rattle.std.proofs.Common.{◌≡◌, ℕ, suc, ◌+◌, ◌*◌, ◌≤◌, List, length, ℤ, pos, Ok, refl, ap, ◌∙◌, ⊎_elim, mul-le-mul}
use Rattle.std.proofs.Common.{arith}
use Rattle.std.specs.List.{concat}
use Rattle.std.proofs.lemmas.Bool.{cond-true, cond-false, eq-eqb, ne_eqb, le-leb, cases_eq}
use Rattle.anystr.specs.Elements.{Filled}
use Rattle.anystr.specs.Limits.{most_bytes}
use Rattle.anystr.proofs.Walking.{count-within}
use Rattle.searchers.specs.substring.Occurrences.{occurrence, occurrence-lawful}
use Rattle.cuts.specs.Cuts.{all_marks, cut_from, poured}
use Rattle.cuts.proofs.Sizes.{cuts_within, poured_within}
use Rattle.bytesinner.specs.Openings.{opening_at}
use Rattle.bytesinner.specs.replaces.Replaces.{most_result, spread_text, copy_count, poured_text, replaced_text}
use Rattle.bytesinner.specs.replaces.Replaces.{if_short, ReplaceLaw}
use Rattle.bytesinner.proofs.replaces.Spreading.{spread_text-with_copies, length-with_copies, spread_none}
use Rattle.bytesinner.proofs.replaces.Spreading.{copy_count-few}
use Rattle.bytesinner.proofs.replaces.Cutting.{no_cuts, poured-joined}

-- what is replaced, by whether `from` is empty
at-marks : (es : List (List ℕ)) (from to : List ℕ) (bound : ℤ) → (length from ≡ 0 → ⊥)
    → replaced_text es from to bound ≡ poured_text es from to bound
at-marks es from to bound some = cond-false _ _ _ (ne_eqb (length from) 0 some)

pub at-elements : (es : List (List ℕ)) (from to : List ℕ) (bound : ℤ) → length from ≡ 0
    → replaced_text es from to bound ≡ spread_text to bound 0 es
at-elements es from to bound none = cond-true _ _ _ (eq-eqb (length from) 0 none)

-- the text with its copies
pub spread_text-long : (es : List (List ℕ)) (to : List ℕ) (bound : ℤ)
    → length (spread_text to bound 0 es) ≡ length (concat es) + copy_count (length es) bound * length to
spread_text-long es to bound =
    let n = length es in
    ap length (spread_text-with_copies to bound es)
    ∙ length-with_copies to (copy_count n bound) es (copy_count-few n bound)

-- no more copies come than elements and one
pub spread_text-within : (es : List (List ℕ)) (to : List ℕ) (bound : ℤ) → Filled es
    → length (spread_text to bound 0 es) ≤ length (concat es) + suc (length (concat es)) * length to
spread_text-within es to bound filled =
    let k = copy_count (length es) bound in
    let n = length (concat es) in
    let few : k ≤ suc n = omega (arith, copy_count-few (length es) bound, count-within es filled) in
    let times : k * length to ≤ suc n * length to = mul-le-mul few (omega arith) in
    omega (arith, spread_text-long es to bound)

-- each cut takes a byte at least, so no more copies come than there are bytes
pub cut-within : (es : List (List ℕ)) (from to : List ℕ) (bound : ℤ)
    → length (poured_text es from to bound) ≤ length (concat es) + suc (length (concat es)) * length to
cut-within es from to bound =
    let n = length (concat es) in
    let on = opening_at (concat es) from bound in
    let law = occurrence-lawful from (concat es) in
    let ms = cut_from on 0 0 in
    let few = cuts_within on law ms 0 0 (omega arith) refl in
    let times : length ms * length to ≤ suc n * length to = mul-le-mul (omega arith) (omega arith) in
    omega (arith, poured_within on law to ms 0 0 (omega arith) refl)

-- a result within the limits is not too long
pub short : (bytes all to : List ℕ) → length all ≤ most_bytes → length to ≤ most_bytes
    → length bytes ≤ length all + suc (length all) * length to → length bytes ≤ most_result
short bytes all to few some size =
    let times : suc (length all) * length to ≤ suc most_bytes * most_bytes =
    mul-le-mul {n₂ = suc most_bytes} {m₂ = most_bytes} (omega arith) some in
    omega arith

-- so it is not refused
pub is-short : (bytes : List ℕ) → length bytes ≤ most_result → if_short bytes ≡ Ok bytes
is-short bytes le = cond-true _ _ _ (le-leb (length bytes) most_result le)

-- the bound 0 leaves the text
pub none-replaced_text : (es : List (List ℕ)) (from to : List ℕ) → replaced_text es from to (pos 0) ≡ concat es
none-replaced_text es from to = ⊎_elim
    (λ none. at-elements es from to (pos 0) none ∙ spread_none to 0 es 0 (omega arith))
    (λ some.
    let ms = all_marks (occurrence from (concat es)) (length (concat es)) in
    at-marks es from to (pos 0) some ∙ ap (poured (concat es) to 0) (no_cuts 0 0 ms))
    (cases_eq (length from) 0)

-- the definition keeps the law
pub replace-law : (es : List (List ℕ)) (from to : List ℕ) (bound : ℤ) → Filled es → ReplaceLaw es from to bound
replace-law es from to bound filled = record {
  split = λ some.
      let ms = cut_from (opening_at (concat es) from bound) 0 0 in
      at-marks es from to bound (λ z. omega arith) ∙ poured-joined (concat es) to 0 ms;
  placed = λ none. at-elements es from to bound none ∙ spread_text-with_copies to bound es;
  added = λ none. ap length (at-elements es from to bound none) ∙ spread_text-long es to bound;
  none = λ z. ap (replaced_text es from to) z ∙ none-replaced_text es from to;
  size = ⊎_elim
      (λ none. omega (arith, ap length (at-elements es from to bound none), spread_text-within es to bound filled))
      (λ some. omega (arith, ap length (at-marks es from to bound some), cut-within es from to bound))
      (cases_eq (length from) 0);
}
