-- Well-formed UTF-8, from Table 3-7 of the Unicode Standard. Assumes nothing.
use Rattle.std.specs.Prelude.{◌≡◌, ℕ, ◌<◌, ◌≤◌, List, [], ◌∷◌, length, take, IsUtf8}
use Rattle.std.specs.Int.{IsInRange}
use Rattle.std.specs.List.{concat, AllByRecursion}

-- a row of the table: the bytes of one code point, each in its column's range
pub data IsSequence : List ℕ → Type 0 where
  row1 : (a : ℕ) → IsInRange 0x00 0x7F a → IsSequence (a ∷ [])
  row2 : (a b : ℕ) → IsInRange 0xC2 0xDF a → IsInRange 0x80 0xBF b → IsSequence (a ∷ b ∷ [])
  row3 : (a b c : ℕ) → IsInRange 0xE0 0xE0 a → IsInRange 0xA0 0xBF b → IsInRange 0x80 0xBF c
      → IsSequence (a ∷ b ∷ c ∷ [])
  row4 : (a b c : ℕ) → IsInRange 0xE1 0xEC a → IsInRange 0x80 0xBF b → IsInRange 0x80 0xBF c
      → IsSequence (a ∷ b ∷ c ∷ [])
  row5 : (a b c : ℕ) → IsInRange 0xED 0xED a → IsInRange 0x80 0x9F b → IsInRange 0x80 0xBF c
      → IsSequence (a ∷ b ∷ c ∷ [])
  row6 : (a b c : ℕ) → IsInRange 0xEE 0xEF a → IsInRange 0x80 0xBF b → IsInRange 0x80 0xBF c
      → IsSequence (a ∷ b ∷ c ∷ [])
  row7 : (a b c d : ℕ) → IsInRange 0xF0 0xF0 a → IsInRange 0x90 0xBF b → IsInRange 0x80 0xBF c → IsInRange 0x80 0xBF d
      → IsSequence (a ∷ b ∷ c ∷ d ∷ [])
  row8 : (a b c d : ℕ) → IsInRange 0xF1 0xF3 a → IsInRange 0x80 0xBF b → IsInRange 0x80 0xBF c → IsInRange 0x80 0xBF d
      → IsSequence (a ∷ b ∷ c ∷ d ∷ [])
  row9 : (a b c d : ℕ) → IsInRange 0xF4 0xF4 a → IsInRange 0x80 0x8F b → IsInRange 0x80 0xBF c → IsInRange 0x80 0xBF d
      → IsSequence (a ∷ b ∷ c ∷ d ∷ [])

-- sequences of the table, one after another
abbrev pub IsWellFormed : List ℕ → Type 0
IsWellFormed bs = (es : List (List ℕ)) × AllByRecursion IsSequence es × (concat es ≡ bs)

-- the first n bytes are the longest well-formed beginning
pub record IsLongestFormed (bs : List ℕ) (n : ℕ) : Type 0 where
  pub within : n ≤ length bs
  pub formed : IsWellFormed (take n bs)
  pub longest : (m : ℕ) → n < m → m ≤ length bs → ¬ IsWellFormed (take m bs)

-- the table says of every list of bytes what the library's `IsUtf8` says
abbrev pub TableIsUtf8 : Type 0
TableIsUtf8 = (bs : List ℕ) → (IsWellFormed bs → IsUtf8 bs) × (IsUtf8 bs → IsWellFormed bs)
