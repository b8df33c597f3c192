use Rattle.std.proofs.Common.{arith}
use Rattle.searchers.proofs.Compared.{times_more}
use Rattle.searchers.proofs.lanes.times.Goals as goal

pub loop-at-preserved : goal.loop-at-preserved
loop-at-preserved c = (
  omega arith,
  times_more c.args.bytes.now c.args.byte c.loop-at.at c.loop-at.count c.times_in-count.result
      c.loop-at.invariant.1 c.times_in-count.ensures.value,
  omega (arith, c.times_in-count.ensures.few),
)
