-- What a check of a place told, by its answer.
use Rattle.std.proofs.Common.{◌≡◌, ℕ, true, Ok, Err, Result}
use Rattle.std.specs.Result.{MatchResult, is_ok}
use Rattle.anystr.specs.Refusals.{PassesIf}
use Rattle.anystr.specs.declared.refusal.Refusal.{Refusal}

-- a check that passed
pub passed : {X : Type 0} (P : Type 0) (code : ℕ × ℕ) (r : Result X Refusal) → true ≡ is_ok r → PassesIf P code r → P
passed P code (Ok x) ok pass = pass
passed P code (Err d) ok pass = cc

-- a check that was refused, with what is known of the error that stands for its refusal
pub refused : {X : Type 0} (P Q : Type 0) (code : ℕ × ℕ) (r : Result X Refusal) (e : Refusal) → PassesIf P code r
    → MatchResult r (λ x. Err e ≡ Ok x) (λ _. Q) → (P → ⊥) × Q
refused P Q code (Ok x) e pass known = let z : Err e ≡ Ok x = known in cc
refused P Q code (Err d) e pass known = (pass.0, known)
