use Rattle.searchers.specs.Seen.{NoneEnds}
use Rattle.searchers.proofs.scan.last_asked.Given as goal

-- no mark ends after the offset that is asked for
abbrev pub invariant-loop-last : goal.invariant-loop-last
invariant-loop-last g l = NoneEnds (g.P.Pattern.marks l.pattern l.bytes) l.last l.to
