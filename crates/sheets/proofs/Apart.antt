-- Texts in which a byte below 128 is an element by itself, element by element.
use Rattle.std.proofs.Common.{◌≡◌, ℕ, zero, suc, ◌+◌, ◌<◌, ◌≤◌, List, [], ◌∷◌, ◌++◌, length, get_or, take}
use Rattle.std.proofs.Common.{All, sym, subst, ⊎_elim, arith}
use Rattle.std.proofs.Common.{length-append}
use Rattle.std.specs.List.{concat}
use Rattle.std.proofs.lemmas.List.Elements.{All-nil, All-cons, All-same, All-take, All-drop}
use Rattle.std.proofs.lemmas.List.{get_or-append-add}
use Rattle.std.proofs.lemmas.Bool.{cases_lt}
use Rattle.std.proofs.Math.ListN.{get_or-append}
use Rattle.std.proofs.Math.Seq.{take-append_seam, drop-append_seam}
use Rattle.anystr.specs.Elements.{Boundary, Filled}
use Rattle.searchers.specs.Ascii.{AsciiApart}
use Rattle.sheets.specs.Apart.{IsApart}

module _ (e : List ℕ) (es : List (List ℕ)) where
  -- no element begins inside the first
  behind : (p : ℕ) → 0 < p → Boundary (e ∷ es) p → length e ≤ p
  behind p some (zero, is) = absurd (omega arith)
  behind p some (suc j, is) = omega (arith, length-append e (concat (take j es)))

  -- behind the first element they begin where those after it do
  after : (q : ℕ) → 0 < length e → Boundary (e ∷ es) (length e + q) → Boundary es q
  after q some (zero, is) = absurd (omega arith)
  after q some (suc j, is) = (j, omega (arith, length-append e (concat (take j es))))

  index-first : (k : ℕ) → k < length e → get_or (e ++ concat es) k 0 ≡ get_or e k 0
  index-first k lt = get_or-append e (concat es) 0 k lt

  index-after : (p : ℕ) → get_or (e ++ concat es) (length e + p) 0 ≡ get_or (concat es) p 0
  index-after p = get_or-append-add e (concat es) p 0

  module _ (some : 0 < length e) (apart : AsciiApart (e ∷ es)) where
    first-alone : (k : ℕ) → k < length e → get_or e k 0 < 128 → length e ≡ 1
    first-alone k lt small =
        let at = apart k (omega (arith, length-append e (concat es))) (omega (arith, index-first k lt)) in
        let end = behind (suc k) (omega arith) at.1 in
        ⊎_elim
        (λ inside. absurd (omega (arith, behind k inside at.0)))
        (λ first. omega arith)
        (cases_lt 0 k)

    rest-apart : AsciiApart es
    rest-apart p lt small =
        let at = apart (length e + p) (omega (arith, length-append e (concat es))) (omega (arith, index-after p)) in
        let next : length e + suc p ≡ suc (length e + p) = omega arith in
        (after p some at.0, after (suc p) some (subst (Boundary (e ∷ es)) (sym next) at.1))

-- each element of such a text is apart
pub apart-elements : (es : List (List ℕ)) → Filled es → AsciiApart es → All (λ b. b < 256) (concat es)
    → All IsApart es
apart-elements [] filled apart few = All-nil IsApart
apart-elements (e ∷ es) filled apart few =
    All-cons IsApart e es
    (record {
      some = filled.0;
      bytes = All-same IsByte e _ (sym (take-append_seam e (concat es))) (All-take IsByte (length e) _ few);
      alone = first-alone e es filled.0 apart;
    })
    (apart-elements es filled.1 (rest-apart e es filled.0 apart)
    (All-same IsByte (concat es) _ (sym (drop-append_seam e (concat es))) (All-drop IsByte (length e) _ few)))
  where
    IsByte : ℕ → Type 0
    IsByte b = b < 256
