-- The entries by which translate looks up what becomes of a byte: its image, and `byte_values` more where it stays.
-- Assumes nothing.
use Rattle.std.specs.Prelude.{ℕ, ◌+◌, ◌%◌, ◌<◌, Bool, List, map, nat_lt, slice_index}
use Rattle.bytesinner.specs.tables.Tables.{byte_values}
use Rattle.bytesinner.specs.tables.Translations.{kept_bytes}

-- no byte's entry is more than an image and the mark that it stays
abbrev pub AreEntries : List ℕ → Type 0
AreEntries cells = (b : ℕ) → b < byte_values → slice_index cells b < byte_values + byte_values

-- the image of a byte
abbrev pub image_in : List ℕ → ℕ → ℕ
image_in cells b = slice_index cells b % byte_values

-- whether a byte goes
abbrev pub is_gone_in : List ℕ → ℕ → Bool
is_gone_in cells b = nat_lt (slice_index cells b) byte_values

-- the images of those of some bytes that stay
abbrev pub images_in : List ℕ → List ℕ → List ℕ
images_in cells bytes = map (image_in cells) (kept_bytes (is_gone_in cells) bytes)
