-- Bytes that are shown as themselves, one after another.
use Rattle.std.proofs.Common.{◌≡◌, ◌≢◌, ℕ, zero, suc, ◌<◌, ◌≤◌, true, List, [], ◌∷◌, ◌++◌, length, get_or, take}
use Rattle.std.proofs.Common.{All, refl, ap, ◌∙◌, arith}
use Rattle.std.specs.List.{concat}
use Rattle.std.proofs.lemmas.Bool.{cond-true}
use Rattle.std.proofs.lemmas.Bool.Decides.{nat_tests}
use Rattle.std.proofs.lemmas.List.Elements.{All-head, All-tail}
use Rattle.sheets.specs.Apart.{IsApart}
use Rattle.sheets.specs.Shown.{is_plain, shown_byte, shown}

-- it is no backslash, and below 128
pub plain-other : (b : ℕ) → is_plain b ≡ true → b ≢ 92
plain-other b plain is = grind (arith, nat_tests)

pub plain-below : (b : ℕ) → is_plain b ≡ true → b < 128
plain-below b plain = grind (arith, nat_tests)

-- as many plain bytes as stand at the front of a text are as many elements, and are shown as they are
pub record Run (n : ℕ) (es : List (List ℕ)) : Type 0 where
  pub bytes : concat (take n es) ≡ take n (concat es)
  pub same : shown (take n es) ≡ take n (concat es)

pub run : (n : ℕ) (es : List (List ℕ)) → All IsApart es → n ≤ length (concat es)
    → ((k : ℕ) → k < n → is_plain (get_or (concat es) k 0) ≡ true) → Run n es
run zero es apart few plain = record { bytes = refl; same = refl }
run (suc n) [] apart few plain = absurd (omega arith)
run (suc n) ([] ∷ es) apart few plain = absurd (omega (arith, (All-head IsApart [] es apart).some))
run (suc n) ((b ∷ []) ∷ es) apart few plain =
    let others = All-tail IsApart (b ∷ []) es apart in
    let after : Run n es = run n es others (omega arith) (λ k lt. plain (suc k) (omega arith)) in
    let itself : shown_byte b ≡ b ∷ [] = cond-true _ _ _ (plain 0 (omega arith)) in
    record {
      bytes = ap (λ r. b ∷ r) after.bytes;
      same = ap (λ s. s ++ shown (take n es)) itself ∙ ap (λ r. b ∷ r) after.same;
    }
run (suc n) ((b ∷ c ∷ bs) ∷ es) apart few plain =
    let first = All-head IsApart (b ∷ c ∷ bs) es apart in
    absurd (omega (arith, first.alone 0 (omega arith) (plain-below b (plain 0 (omega arith)))))
