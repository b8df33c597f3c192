-- Elements in which a byte below 128 stands alone. Assumes nothing.
use Rattle.std.specs.Prelude.{◌≡◌, ℕ, ◌<◌, List, length, slice_index, All}

-- an element of bytes, with one at least, and alone if one is below 128
pub record IsApart (e : List ℕ) : Type 0 where
  pub some : 0 < length e
  pub bytes : All (λ b. b < 256) e
  pub alone : (k : ℕ) → k < length e → slice_index e k < 128 → length e ≡ 1
