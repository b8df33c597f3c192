-- What a label shows: the bytes that it holds. Assumes nothing.
use Rattle.std.specs.Prelude.{ℕ, ◌-◌, List, length, replicate}
use Rattle.trays.specs.Trays.{Contents}

-- the bytes of a label; the code's LABEL_BYTES
abbrev pub label_bytes : ℕ
label_bytes = 80

-- the bytes past the first `len` are zero
abbrev pub zeros_past : ℕ → List ℕ
zeros_past len = replicate (label_bytes - len) 0

-- a label that holds these bytes, as a tray
abbrev pub label_contents : List ℕ → Contents
label_contents held = record { held = held; spare = zeros_past (length held) }
