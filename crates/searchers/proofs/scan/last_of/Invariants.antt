use Rattle.std.proofs.Common.{ℕ, ◌≤◌}
use Rattle.searchers.specs.Seen.{Ends}
use Rattle.searchers.proofs.scan.last_of.Given as goal

-- no mark that may end was passed over
abbrev pub invariant-loop-left : goal.invariant-loop-left
invariant-loop-left g l =
    let marks = g.P.Pattern.marks l.pattern l.bytes in
    (l.left ≤ l.ends) × ((to : ℕ) → Ends marks l.at to l.ends → Ends marks l.at to l.left)

abbrev pub decreases-loop-left : goal.decreases-loop-left
decreases-loop-left g l = l.left
