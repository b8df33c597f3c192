-- Kinds of text in which a byte below 128 is an element by itself. Assumes nothing.
use Rattle.std.specs.Prelude.{ℕ, suc, ◌<◌, List, length, slice_index}
use Rattle.std.specs.List.{concat}
use Rattle.anystr.specs.Elements.{Boundary}

-- a byte below 128 stands between boundaries
abbrev pub AsciiApart : List (List ℕ) → Type 0
AsciiApart es =
    (p : ℕ) → p < length (concat es) → slice_index (concat es) p < 128 → Boundary es p × Boundary es (suc p)
