use Rattle.std.proofs.Common.{◌≡◌, ℕ, ◌<◌, ◌≤◌, true}
use Rattle.searchers.specs.bytesets.ByteSets.{has_byte}
use Rattle.searchers.proofs.bytesets.byteset.ByteSet.least_from.Given as goal

-- no byte from `low` on that was gone over is in the set
abbrev pub invariant-loop-byte : goal.invariant-loop-byte
invariant-loop-byte l = (b : ℕ) → l.low ≤ b → b < l.byte → has_byte l.self b ≡ true → ⊥
