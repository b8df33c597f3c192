-- The table that maketrans makes from two lists of bytes. Assumes nothing.
use Rattle.std.specs.Prelude.{◌≡◌, ℕ, ◌<◌, if◌then◌else◌, List, [], ◌∷◌, map, length, Ok, Err, Result, ◌==◌, ◌≢◌}
use Rattle.std.specs.Prelude.{slice_index, slice_index_or}
use Rattle.std.specs.List.{range_with_len}
use Rattle.bytesinner.specs.tables.Tables.{byte_values}

-- what a byte maps to: its partner at its first position in `from`, or itself where it is not there
abbrev pub partner : (from to : List ℕ) → ℕ → ℕ
partner [] to b = b
partner (x ∷ from) [] b = b
partner (x ∷ from) (y ∷ to) b = if x == b then y else partner from to b

-- the table of every byte's partner, in the order of the bytes
abbrev pub table_from : (from to : List ℕ) → List ℕ
table_from from to = map (partner from to) (range_with_len 0 byte_values)

-- the table, or the refusal of lists of unequal lengths
abbrev pub maketrans_of : (from to : List ℕ) → Result (List ℕ) (ℕ × ℕ)
maketrans_of from to = if length from == length to then Ok (table_from from to) else Err (3, 0)

-- a byte stands at a position of a list, and at no lesser one
pub record FirstAt (xs : List ℕ) (b i : ℕ) : Type 0 where
  pub within : i < length xs
  pub here : slice_index_or xs i 0 ≡ b
  pub first : (j : ℕ) → j < i → slice_index xs j ≢ b

-- an entry of a table: a byte that `from` has goes to the byte of `to` at its first position, any other to itself
abbrev pub Entry : (from to : List ℕ) → (b entry : ℕ) → Type 0
Entry from to b entry =
    ((i : ℕ) → FirstAt from b i → entry ≡ slice_index to i)
    × (((i : ℕ) → i < length from → slice_index from i ≢ b) → entry ≡ b)

-- a table has such an entry for every byte
abbrev pub MapsFirst : (from to table : List ℕ) → Type 0
MapsFirst from to table =
    (length table ≡ byte_values) × ((b : ℕ) → b < byte_values → Entry from to b (slice_index table b))
