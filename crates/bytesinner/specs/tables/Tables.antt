-- What the calls on tables share. Assumes nothing.
use Rattle.std.specs.Prelude.{◌≡◌, ℕ, List, Ok, Err, Result}
use Rattle.anystr.specs.declared.refusal.Refusal.{Refusal}
use Rattle.trays.specs.Trays.{Contents, gained}

-- the number of bytes that there are, and so of a table's entries; the code's BYTE_VALUES
abbrev pub byte_values : ℕ
byte_values = 256

-- a call that is not refused appends bytes to the tray, of which this holds
abbrev pub Appends : {Tray X : Type 0} → (Tray → Contents) → (tray tray' : Tray) → (List ℕ → Type 0)
    → Result X Refusal → Type 0
Appends contents tray tray' P (Ok _) = (added : List ℕ) × (contents tray' ≡ gained (contents tray) added) × P added
Appends contents tray tray' P (Err _) = Unit {0}
