use Rattle.std.proofs.Common.{ℕ, ◌+◌, ◌-◌, ◌≤◌, length}
use Rattle.searchers.specs.Marks.{CutTimes}
use Rattle.searchers.proofs.scan.row_from.Given as goal

-- what is cut and what is left to cut make up all cuts
abbrev pub invariant-loop-end : goal.invariant-loop-end
invariant-loop-end g l =
    let marks = g.P.Pattern.marks l.pattern l.bytes in
    (l.from + l.count ≤ l.place) × ((n : ℕ) → CutTimes marks l.place n → CutTimes marks l.from (l.count + n))

abbrev pub decreases-loop-end : goal.decreases-loop-end
decreases-loop-end g l = length l.bytes - l.place
