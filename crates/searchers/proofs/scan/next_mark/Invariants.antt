use Rattle.std.proofs.Common.{◌+◌, ◌-◌, ◌≤◌, length}
use Rattle.searchers.specs.Seen.{Begins, IsSeenOf, NoneBegins}
use Rattle.searchers.proofs.scan.next_mark.Given as goal

-- no mark begins before the offset from which the bits tell
abbrev pub invariant-loop-seen : goal.invariant-loop-seen
invariant-loop-seen g l =
    let marks = g.P.Pattern.marks l.pattern l.bytes in
    (l.from ≤ l.at) × (l.seen.at ≤ l.at) × (l.at ≤ l.seen.at + 64)
    × (IsSeenOf marks l.fn.seen → IsSeenOf marks l.seen × Begins marks l.at (l.seen.at + 64) l.left
    × NoneBegins marks l.from l.at)

abbrev pub decreases-loop-seen : goal.decreases-loop-seen
decreases-loop-seen g l = length l.bytes - l.seen.at
