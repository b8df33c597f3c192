-- The refusals by their numbers. Assumes nothing.
use Rattle.std.specs.Prelude.{◌≡◌, ℕ, Ok, Err, Result, MatchResult}
use Rattle.anystr.specs.declared.refusal.Refusal.{Refusal}
use Rattle.anystr.specs.declared.refusal.Refusal.TheVariants.{EmptyNeedle, NotByte, UnequalLengths, BadTable}
use Rattle.anystr.specs.declared.refusal.Refusal.TheVariants.{ResultTooLong, TooLong, TooSmall, Spent, TooFew}
use Rattle.anystr.specs.declared.refusal.Refusal.TheVariants.{IllFormed, NotAscii, BadPlace}

-- the number of a refusal, and the number that it carries, 0 where it has none
abbrev pub code : Refusal → ℕ × ℕ
code EmptyNeedle = (1, 0)
code NotByte = (2, 0)
code UnequalLengths = (3, 0)
code BadTable = (4, 0)
code ResultTooLong = (5, 0)
code TooLong = (6, 0)
code (TooSmall needed) = (7, needed)
code Spent = (8, 0)
code (TooFew left) = (9, left)
code (IllFormed formed) = (10, formed)
code (NotAscii least) = (11, least)
code (BadPlace index) = (12, index)

-- a check that passes exactly where a fact holds, and is refused with this code elsewhere
abbrev pub PassesIf : {X : Type 0} → Type 0 → ℕ × ℕ → Result X Refusal → Type 0
PassesIf P refused r = MatchResult r (λ _. P) (λ e. (¬ P) × (code e ≡ refused))

-- an answer, with a refusal by its code
abbrev pub coded : {X : Type 0} → Result X Refusal → Result X (ℕ × ℕ)
coded (Ok x) = Ok x
coded (Err e) = Err (code e)
