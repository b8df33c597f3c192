use Rattle.searchers.specs.Seen.{NoneBegins}
use Rattle.searchers.proofs.scan.first_asked.Given as goal

-- no mark begins before the offset that is asked for
abbrev pub invariant-loop-start : goal.invariant-loop-start
invariant-loop-start g l = NoneBegins (g.P.Pattern.marks l.pattern l.bytes) l.from l.start
