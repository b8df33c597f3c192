use Rattle.memchr.proofs.lemmas.BitLemmas.{bit_at_top, bit_at_above}
use Rattle.searchers.proofs.lanes.highest.Goals as goal

pub returns-clause-set : goal.returns-clause-set
returns-clause-set c = bit_at_top _ _ c.ilog2.ensures.power_le c.ilog2.ensures.next_power_gt

pub returns-clause-above : goal.returns-clause-above
returns-clause-above c k l = bit_at_above _ _ k c.ilog2.ensures.next_power_gt l
