use Rattle.std.proofs.Common.{ℕ, ◌≤◌}
use Rattle.searchers.specs.Seen.{Begins}
use Rattle.searchers.proofs.scan.first_of.Given as goal

-- no mark that may begin was passed over
abbrev pub invariant-loop-left : goal.invariant-loop-left
invariant-loop-left g l =
    let marks = g.P.Pattern.marks l.pattern l.bytes in
    (l.left ≤ l.begins) × ((end : ℕ) → Begins marks l.at end l.begins → Begins marks l.at end l.left)

abbrev pub decreases-loop-left : goal.decreases-loop-left
decreases-loop-left g l = l.left
