use Rattle.std.proofs.Common.{◌≤◌, length}
use Rattle.searchers.specs.Seen.{IsSeenBackOf, NoneEnds}
use Rattle.searchers.proofs.scan.look_back.Given as goal

-- no mark ends after the offset that is looked at
abbrev pub invariant-loop-to : goal.invariant-loop-to
invariant-loop-to g l =
    let marks = g.P.Pattern.marks l.pattern l.bytes in
    (l.to ≤ length l.bytes) × (l.to ≤ l.before) × NoneEnds marks l.to l.before
    × (IsSeenBackOf marks l.fn.seen → IsSeenBackOf marks l.seen)

abbrev pub decreases-loop-to : goal.decreases-loop-to
decreases-loop-to g l = l.to
