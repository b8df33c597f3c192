-- Offsets that are looked at side by side, as the bits of a number. Assumes nothing.
use Rattle.std.specs.Prelude.{◌≡◌, ℕ, ◌+◌, ◌<◌, Bool, true, List, length, slice_index}
use Rattle.std.specs.Int.{bit_at}

-- for each k below `lanes` bit k is set where a byte of the set stands at `at + k`, and maybe elsewhere
abbrev pub Places : (ℕ → Bool) → List ℕ → (lanes at bits : ℕ) → Type 0
Places set bs lanes at bits =
    (k : ℕ) → k < lanes → at + k < length bs → set (slice_index bs (at + k)) ≡ true → bit_at bits k ≡ 1
