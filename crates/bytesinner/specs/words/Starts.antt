-- Words counted by where they begin. Assumes nothing.
use Rattle.std.specs.Prelude.{ℕ, ◌+◌, Bool, ◌&&◌, if◌then◌else◌, List, [], ◌∷◌, not}
use Rattle.bytesinner.specs.words.Words.{is_space}

-- how many words begin in these bytes, which stand behind whitespace, or at the start of a text, or do not
abbrev pub starts : Bool → List ℕ → ℕ
starts behind [] = 0
starts behind (b ∷ bs) = (if behind && not (is_space b) then 1 else 0) + starts (is_space b) bs

-- whether what stands behind them does so
abbrev pub ends_space : Bool → List ℕ → Bool
ends_space behind [] = behind
ends_space behind (b ∷ bs) = ends_space (is_space b) bs
