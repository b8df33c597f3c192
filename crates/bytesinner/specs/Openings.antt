-- Bytes that are to be cut at others. Assumes nothing.
use Rattle.std.specs.Prelude.{ℕ, List, ℤ, negsuc}
use Rattle.searchers.specs.substring.Occurrences.{occurrence}
use Rattle.cuts.specs.Cuts.{Opening}

-- the bound that lets every mark be cut
abbrev pub unbounded : ℤ
unbounded = negsuc 0

-- bytes to be cut at the occurrences of a needle, as often as a bound allows
abbrev pub opening_at : (bytes needle : List ℕ) → ℤ → Opening
opening_at bytes needle bound = record { marks = occurrence needle bytes; bytes = bytes; bound = bound }
