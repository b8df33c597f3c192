-- Where bytes stand among 64, by where they stand among 32 and the next 32.
use Rattle.std.proofs.Common.{◌≡◌, ℕ, ◌+◌, ◌-◌, ◌<◌, ◌≤◌, Bool, true, List, length, subst, ⊎_elim, arith}
use Rattle.std.specs.Int.{bit_at}
use Rattle.std.specs.Prelude.{slice_index}
use Rattle.std.proofs.lemmas.Bool.{cases_lt}
use Rattle.searchers.specs.Lanes.{Places}

-- the bits of both halves tell where
pub halves : (set : ℕ → Bool) (bs : List ℕ) (at next front back bits : ℕ) → (at + 32 < length bs → next ≡ at + 32)
    → Places set bs 32 at front → Places set bs 32 next back
    → ((k : ℕ) → k < 32 → bit_at front k ≡ 1 → bit_at bits k ≡ 1)
    → ((k : ℕ) → 32 ≤ k → bit_at back (k - 32) ≡ 1 → bit_at bits k ≡ 1) → Places set bs 64 at bits
halves set bs at next front back bits follows ahead behind low high k lt within has =
    ⊎_elim
    (λ near. low k near (ahead k near within has))
    (λ far.
    let after = follows (omega arith) in
    let here : at + k ≡ next + (k - 32) = omega arith in
    let byte = subst (λ (i : ℕ). set (slice_index bs i) ≡ true) here has in
    high k far (behind (k - 32) (omega arith) (omega arith) byte))
    (cases_lt k 32)
