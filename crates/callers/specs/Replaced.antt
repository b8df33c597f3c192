-- A page that is written on from its start. Assumes nothing.
use Rattle.std.specs.Prelude.{◌≡◌, ℕ, ◌<◌, ◌≤◌, List, ◌++◌, length, drop, Ok, Err, Result}
use Rattle.anystr.specs.declared.refusal.Refusal.{Refusal}
use Rattle.anystr.specs.declared.refusal.Refusal.TheVariants.{TooSmall}
use Rattle.anystr.specs.Refusals.{code, coded}

-- The page before and after a call that is defined to write these bytes, or to be refused with a code. The bytes stand
-- first, and those past them are as they were; a refused call leaves every byte.
abbrev pub IsOverwritten : Result (List ℕ) (ℕ × ℕ) → (page page' : List ℕ) → Result (Unit {0}) Refusal → Type 0
IsOverwritten (Ok bytes) page page' (Ok _) = (length bytes ≤ length page) × (page' ≡ bytes ++ drop (length bytes) page)
IsOverwritten (Ok bytes) page page' (Err e) =
    (length page < length bytes) × (code e ≡ code (TooSmall (length bytes))) × (page' ≡ page)
IsOverwritten (Err c) page page' r = (coded r ≡ Err c) × (page' ≡ page)
