-- Where a row is written, on a label or a page. Assumes nothing.
use Rattle.std.specs.Prelude.{◌≡◌, ℕ, ◌-◌, ◌<◌, ◌≤◌, List, ◌++◌, length, drop, Ok, Err, Result}
use Rattle.anystr.specs.declared.refusal.Refusal.{Refusal}
use Rattle.anystr.specs.declared.refusal.Refusal.TheVariants.{TooSmall}
use Rattle.anystr.specs.Refusals.{code}
use Rattle.trays.specs.Labels.{label_bytes}
use Rattle.callers.specs.declared.pages.Written.{Written}
use Rattle.callers.specs.declared.pages.Written.TheVariants.{OnLabel, OnPage}

-- A row is written behind what the label holds if it fits there, else at the start of the page if it fits there, and
-- what is not written on stays.
abbrev pub IsWritten : List ℕ → (label label' page page' : List ℕ) → Result Written Refusal → Type 0
IsWritten row label label' page page' (Ok OnLabel) =
    (length row ≤ label_bytes - length label) × (label' ≡ label ++ row) × (page' ≡ page)
IsWritten row label label' page page' (Ok OnPage) =
    (label_bytes - length label < length row) × (length row ≤ length page) × (label' ≡ label)
    × (page' ≡ row ++ drop (length row) page)
IsWritten row label label' page page' (Err e) =
    (label_bytes - length label < length row) × (length page < length row)
    × (code e ≡ code (TooSmall (length row))) × (label' ≡ label) × (page' ≡ page)
