-- The limits of the port. Assumes nothing.
use Rattle.std.specs.Prelude.{ℕ}

-- the most bytes of a text; the code's MAX_BYTES
abbrev pub most_bytes : ℕ
most_bytes = 16777216
