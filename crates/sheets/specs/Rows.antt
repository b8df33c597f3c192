-- Rows of a sheet whose number of fields is not the expected one. Assumes nothing.
use Rattle.std.specs.Prelude.{ℕ, ◌+◌, if◌then◌else◌, ◌==◌, false, List, [], ◌∷◌, ◌++◌, length, Some, None, Ok, Err}
use Rattle.std.specs.Prelude.{Option, Result}
use Rattle.anystr.specs.Places.{part, stretch}
use Rattle.anystr.specs.Refusals.{code}
use Rattle.anystr.specs.declared.refusal.Refusal.{Refusal}
use Rattle.searchers.specs.Marks.{Span}
use Rattle.bytesinner.specs.Openings.{unbounded}
use Rattle.bytesinner.specs.lines.Lines.{lines_of}
use Rattle.bytesinner.specs.splits.Separated.{split_of}
use Rattle.sheets.specs.declared.rows.Deviant.{Deviant}

-- how many places there are, where there are any
abbrev pub place_count : Result (List Span) (ℕ × ℕ) → ℕ
place_count (Ok places) = length places
place_count (Err _) = 0

-- how many fields a row has: the places that it is split into at the separator
abbrev pub field_count : (sep row : List ℕ) → ℕ
field_count sep row = place_count (split_of row sep unbounded)

-- how many fields the first row has
abbrev pub header_count : (sep bytes : List ℕ) → List Span → ℕ
header_count sep bytes [] = 0
header_count sep bytes (row ∷ rows) = field_count sep (part bytes row)

-- how many fields the rows of a sheet are to have: so many, or as many as the first row
abbrev pub expected_of : (sep bytes : List ℕ) → Option ℕ → ℕ
expected_of sep bytes (Some fields) = fields
expected_of sep bytes None = header_count sep bytes (lines_of bytes false)

-- a row by its number, its place and how many fields it has
abbrev pub Seen : Type 0
Seen = ℕ × Span × ℕ

abbrev pub seen : Deviant → Seen
seen d = (d.number, stretch d.place, d.fields)

-- a row, where its number of fields is not the expected one
abbrev pub unless_expected : (expected number : ℕ) → Span → ℕ → List Seen
unless_expected expected number row fields = if fields == expected then [] else (number, row, fields) ∷ []

-- of these rows, numbered from `number` on, those whose number of fields is not the expected one
abbrev pub deviating : (sep bytes : List ℕ) → (expected number : ℕ) → List Span → List Seen
deviating sep bytes expected number [] = []
deviating sep bytes expected number (row ∷ rows) =
    unless_expected expected number row (field_count sep (part bytes row))
    ++ deviating sep bytes expected (number + 1) rows

-- the rows of a sheet whose number of fields is not the expected one, in order
abbrev pub deviants_of : (sep bytes : List ℕ) → ℕ → List Seen
deviants_of sep bytes expected = deviating sep bytes expected 1 (lines_of bytes false)

-- how many entries a list of places wants, by the answer of a call that had none
abbrev pub needed_of : Result ℕ Refusal → ℕ
needed_of (Ok n) = n
needed_of (Err e) = (code e).1
