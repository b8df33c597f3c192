-- What trays gain by pushes.
use Rattle.std.proofs.Common.{◌≡◌, ℕ, ◌≤◌, List, ◌++◌, length, drop, Ok, Err, Result, ap, ◌∙◌, sym, append_assoc, arith}
use Rattle.std.proofs.Common.{length-append}
use Rattle.std.proofs.lemmas.List.{drop-drop}
use Rattle.trays.specs.Trays.{Contents, gained, IsFilled}

-- two gains are one
pub gained-append : (tray : Contents) (xs ys : List ℕ) → gained (gained tray xs) ys ≡ gained tray (xs ++ ys)
gained-append tray xs ys =
    let held = append_assoc tray.held xs ys in
    let both = ap (λ n. drop n tray.spare) (sym (length-append xs ys)) in
    let spare = drop-drop (length ys) (length xs) tray.spare ∙ both in
    λ i. record { held = held i; spare = spare i }

-- bytes that fit are taken
pub took : {X : Type 0} (bytes : List ℕ) (tray tray' : Contents) (r : Result X (ℕ × ℕ))
    → length bytes ≤ length tray.spare → IsFilled (Ok bytes) tray tray' r → tray' ≡ gained tray bytes
took bytes tray tray' (Ok _) fits p = p.1
took bytes tray tray' (Err c) fits p = absurd (omega (arith, p.0))
