-- The entries of a table where bytes are deleted.
use Rattle.std.proofs.Common.{◌≡◌, ℕ, ◌+◌, ◌<◌, false, cond, List, length, slice_index, arith}
use Rattle.std.proofs.lemmas.Bool.Decides.{nat_tests}
use Rattle.searchers.specs.bytesets.Sets.{among}
use Rattle.bytesinner.specs.tables.Tables.{byte_values}
use Rattle.bytesinner.specs.tables.Entries.{AreEntries, image_in, is_gone_in}

-- a deleted byte has the entry 0, any other its image and the mark that it stays
pub record EntriesOf (cells : List ℕ) (image : ℕ → ℕ) (delete : List ℕ) : Type 0 where
  pub long : length cells ≡ byte_values
  pub entry : (b : ℕ) → b < byte_values → slice_index cells b ≡ cond (among delete b) 0 (byte_values + image b)

module _ (cells : List ℕ) (image : ℕ → ℕ) (delete : List ℕ) (made : EntriesOf cells image delete)
    (small : AreEntries cells) (b : ℕ) (h : b < byte_values) where
  -- the deleted bytes go
  pub gone-is : is_gone_in cells b ≡ among delete b
  gone-is = grind (arith, nat_tests, made.entry b h)

  -- and each other has its image
  pub image-is : among delete b ≡ false → image_in cells b ≡ image b
  image-is stays =
      let is : slice_index cells b ≡ byte_values + image b = rw stays at (made.entry b h) in
      omega (arith, is, small b h)
