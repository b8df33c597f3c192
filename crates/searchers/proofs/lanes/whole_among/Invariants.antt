use Rattle.std.proofs.Common.{◌≡◌, ℕ, ◌+◌, ◌<◌, ◌≤◌, true, take, get_or}
use Rattle.searchers.specs.bytesets.Sets.{among}
use Rattle.searchers.proofs.lanes.whole_among.Given as goal

abbrev pub invariant-loop-byte : goal.invariant-loop-byte
invariant-loop-byte l =
    (k : ℕ) → k < 32 → among (take l.byte-index l.set) (get_or l.bytes (l.at + k) 0) ≡ true
    → 128 ≤ get_or l.hits k 0
