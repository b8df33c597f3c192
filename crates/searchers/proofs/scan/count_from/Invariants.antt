use Rattle.std.proofs.Common.{◌≡◌, ℕ, ◌+◌, ◌-◌, ◌<◌, ◌≤◌, IsTrue, length}
use Rattle.std.specs.Int.{bit_at}
use Rattle.searchers.specs.Marks.{CutTimes}
use Rattle.searchers.specs.Seen.{NoneBegins}
use Rattle.searchers.proofs.scan.count_from.Given as goal

-- what is cut and what is left to cut make up all cuts; no mark that is left begins before the block
abbrev pub invariant-loop-at : goal.invariant-loop-at
invariant-loop-at g l =
    let marks = g.P.Pattern.marks l.pattern l.bytes in
    (l.from + l.count ≤ l.place) × (l.from ≤ l.at) × NoneBegins marks l.place l.at
    × ((n : ℕ) → CutTimes marks l.place n → CutTimes marks l.from (l.count + n))

abbrev pub decreases-loop-at : goal.decreases-loop-at
decreases-loop-at g l = length l.bytes - l.at

-- nor one in the block whose bit is not left
abbrev pub invariant-loop-left : goal.invariant-loop-left
invariant-loop-left g l =
    let marks = g.P.Pattern.marks l.pattern l.bytes in
    (l.from + l.count ≤ l.place) × (l.from ≤ l.at) × NoneBegins marks l.place l.at
    × ((n : ℕ) → CutTimes marks l.place n → CutTimes marks l.from (l.count + n))
    × ((b e : ℕ) → l.place ≤ b → l.at ≤ b → b < l.at + 64 → IsTrue (marks b e) → bit_at l.left (b - l.at) ≡ 1)

abbrev pub decreases-loop-left : goal.decreases-loop-left
decreases-loop-left g l = l.left
