use Rattle.std.proofs.Common.{◌≡◌, ◌+◌, ◌-◌, ◌≤◌, count_by, take, length}
use Rattle.std.specs.Prelude.{◌==◌}
use Rattle.searchers.proofs.lanes.times.Given as goal

-- what was counted of the bytes before the offset
abbrev pub invariant-loop-at : goal.invariant-loop-at
invariant-loop-at l =
    (l.at ≤ length l.bytes) × (l.count ≡ count_by (λ x. x == l.byte) (take l.at l.bytes)) × (l.count ≤ l.at)

abbrev pub decreases-loop-at : goal.decreases-loop-at
decreases-loop-at l = length l.bytes - l.at

abbrev pub invariant-loop-other : goal.invariant-loop-other
invariant-loop-other l =
    let seen = l.at + l.other-index in
    (l.count ≡ count_by (λ x. x == l.byte) (take seen l.bytes)) × (l.count ≤ seen)
