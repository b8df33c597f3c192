-- The result of translate. Assumes nothing.
use Rattle.std.specs.Prelude.{◌≡◌, ℕ, ◌<◌, Bool, true, if◌then◌else◌, not, List, [], map, length, filter, count_by}
use Rattle.std.specs.Prelude.{Some, None, Ok, Err, Option, Result, ◌==◌, slice_index}
use Rattle.anystr.specs.declared.optional.OptionalArg.{OptionalArg}
use Rattle.anystr.specs.declared.optional.OptionalArg.TheVariants.{Present, Missing}
use Rattle.searchers.specs.bytesets.Sets.{among}
use Rattle.std.specs.Option.{option_map}
use Rattle.bytesinner.specs.declared.tables.translate.ByteInnerTranslateOptions.{ByteInnerTranslateOptions}
use Rattle.bytesinner.specs.tables.Tables.{byte_values}

-- what a table maps a byte to; an absent table maps it to itself
abbrev pub image : Option (List ℕ) → ℕ → ℕ
image None b = b
image (Some table) b = slice_index table b

-- whether a table has an image for every byte and no more; an absent table has
abbrev pub is_full : Option (List ℕ) → Bool
is_full None = true
is_full (Some table) = length table == byte_values

-- the bytes that are not gone
abbrev pub kept_bytes : (gone : ℕ → Bool) → List ℕ → List ℕ
kept_bytes gone bytes = filter (λ b. not (gone b)) bytes

-- the bytes of a lent list; one that is left out has none
abbrev pub lent_bytes : {T : Type 0} → (T → List ℕ) → OptionalArg T → List ℕ
lent_bytes bytes Missing = []
lent_bytes bytes (Present x) = bytes x

-- the table that the options lend
abbrev pub table_in : ByteInnerTranslateOptions → Option (List ℕ)
table_in options = option_map (λ t. t.now) options.table

-- the bytes that the options delete
abbrev pub delete_in : ByteInnerTranslateOptions → List ℕ
delete_in options = lent_bytes (λ d. d.now) options.delete

-- what is kept of a text, each byte as the table maps it
abbrev pub kept_images : ByteInnerTranslateOptions → List ℕ → List ℕ
kept_images options bytes = map (image (table_in options)) (kept_bytes (among (delete_in options)) bytes)

-- translate: its bytes, or the refusal of a table
abbrev pub translate_of : ByteInnerTranslateOptions → List ℕ → Result (List ℕ) (ℕ × ℕ)
translate_of options bytes = if is_full (table_in options) then Ok (kept_images options bytes) else Err (4, 0)

-- the code's table and its delete list are what options mean
pub record Meant (options : ByteInnerTranslateOptions) (table delete : List ℕ) : Type 0 where
  pub long : is_full (table_in options) ≡ true
  pub maps : (b : ℕ) → b < byte_values → slice_index table b ≡ image (table_in options) b
  pub goes : delete ≡ delete_in options

-- each byte of a text stands in its place as the table maps it
pub record InPlace (options : ByteInnerTranslateOptions) (bytes added : List ℕ) : Type 0 where
  pub long : length added ≡ length bytes
  pub maps : (i : ℕ) → i < length bytes → slice_index added i ≡ image (table_in options) (slice_index bytes i)

-- how often a byte stands in a text
abbrev pub times : ℕ → List ℕ → ℕ
times b xs = count_by (λ x. b == x) xs

-- the deleted bytes are gone, and each other byte stands as often as in the text
abbrev pub Without : ByteInnerTranslateOptions → (bytes added : List ℕ) → Type 0
Without options bytes added =
    (b : ℕ) → times b added ≡ (if among (delete_in options) b then 0 else times b bytes)
