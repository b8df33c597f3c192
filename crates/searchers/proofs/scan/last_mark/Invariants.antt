use Rattle.std.proofs.Common.{◌≤◌}
use Rattle.searchers.specs.Seen.{NoneEnds}
use Rattle.searchers.proofs.scan.last_mark.Given as goal

-- no mark ends after the offset that is asked for
abbrev pub invariant-loop-end : goal.invariant-loop-end
invariant-loop-end g l = (l.end ≤ l.to) × NoneEnds (g.P.Pattern.marks l.pattern l.bytes) l.end l.to

abbrev pub decreases-loop-end : goal.decreases-loop-end
decreases-loop-end g l = l.end
