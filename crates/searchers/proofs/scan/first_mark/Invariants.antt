use Rattle.std.proofs.Common.{◌-◌, ◌≤◌, length}
use Rattle.searchers.specs.Seen.{NoneBegins}
use Rattle.searchers.proofs.scan.first_mark.Given as goal

-- no mark begins before the offset that is asked for
abbrev pub invariant-loop-start : goal.invariant-loop-start
invariant-loop-start g l = (l.from ≤ l.start) × NoneBegins (g.P.Pattern.marks l.pattern l.bytes) l.from l.start

abbrev pub decreases-loop-start : goal.decreases-loop-start
decreases-loop-start g l = length l.bytes - l.start
