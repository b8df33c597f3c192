use Rattle.searchers.specs.Lanes.{Places}
use Rattle.searchers.specs.bytesets.ByteSets.{has_byte}
use Rattle.searchers.proofs.bytesets.byteset.ByteSet.looked_up.Given as goal

-- the bits of the offsets that were gone over
abbrev pub invariant-loop-k : goal.invariant-loop-k
invariant-loop-k l = Places (has_byte l.self) l.bytes l.k l.at l.bits
