-- When a skip passes.
use Rattle.std.proofs.Common.{◌≡◌, ℕ, ◌≤◌, length, Ok}
use Rattle.std.proofs.lemmas.Bool.{le-leb}
use Rattle.cuts.specs.Cuts.{Opening, State, pieces_left, skip_of}

module _ (on : Opening) (n : ℕ) (s : State) where
  -- it passes where so many are left
  pub skip_passes : n ≤ length (pieces_left on s) → Ok tt ≡ skip_of on n s
  skip_passes h = rw (le-leb n (length (pieces_left on s)) h)
