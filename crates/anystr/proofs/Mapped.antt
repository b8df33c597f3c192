-- Answers of which the value was mapped, or taken with another in place of a refusal.
use Rattle.std.proofs.Common.{◌≡◌, Ok, Err, Result}
use Rattle.std.specs.Result.{MatchResult, IfOk, IsOkAnd, result_unwrap_or}

-- what every value and every refusal told is told of the mapped answer
pub mapped : {X Y E : Type 0} (M : Result Y E → Type 0) (R : X → Y → Type 0) (A : X → Type 0) (B : E → Type 0)
    (r : Result X E) (r' : Result Y E)
    → MatchResult r (λ x. IsOkAnd r' (R x)) (λ e. r' ≡ Err e) → MatchResult r A B
    → ((x : X) (y : Y) → A x → M (Ok y)) → ((e : E) → B e → M (Err e)) → M r'
mapped M R A B (Ok x) (Ok y) m p ok err = ok x y p
mapped M R A B (Ok x) (Err e) m p ok err = absurd m
mapped M R A B (Err e) r' m p ok err = rw m (err e p)

-- where the check passes, what is told of the value is told of the one that is taken
pub made : {X E : Type 0} (Q : X → Type 0) (P : Type 0) (B : E → Type 0) (r : Result X E) (other : X)
    → MatchResult r (λ _. P) (λ e. (¬ P) × B e) × IfOk r Q → P → Q (result_unwrap_or r other)
made Q P B (Ok t) other told p = told.1
made Q P B (Err e) other told p = absurd (told.0.0 p)
