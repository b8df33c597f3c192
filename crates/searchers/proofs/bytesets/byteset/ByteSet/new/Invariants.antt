use Rattle.std.proofs.Common.{take}
use Rattle.searchers.specs.bytesets.ByteSets.{has_byte}
use Rattle.searchers.specs.bytesets.Sets.{IsSetOf}
use Rattle.searchers.proofs.bytesets.byteset.ByteSet.new.Given as goal

-- the set has the bytes that were gone over
abbrev pub invariant-loop-b : goal.invariant-loop-b
invariant-loop-b l = IsSetOf (take l.b-index l.bytes) (has_byte l.set)
