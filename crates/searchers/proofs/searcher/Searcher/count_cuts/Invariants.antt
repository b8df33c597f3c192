use Rattle.std.proofs.Common.{ℕ, ◌+◌, ◌-◌, ◌≤◌, length}
use Rattle.std.specs.List.{concat}
use Rattle.searchers.specs.Marks.{CutTimes}
use Rattle.searchers.specs.Seen.{IsSeenOf}
use Rattle.searchers.proofs.searcher.Searcher.count_cuts.Given as goal

-- what is cut and what is left to cut make up all cuts
abbrev pub invariant-loop-mark : goal.invariant-loop-mark
invariant-loop-mark g l =
    let marks = g.Self.Searcher.marks l.self (g.S.AnyStr.elements l.text) in
    (l.from + l.count ≤ l.place) × IsSeenOf marks l.seen
    × ((n : ℕ) → CutTimes marks l.place n → CutTimes marks l.from (l.count + n))

abbrev pub decreases-loop-mark : goal.decreases-loop-mark
decreases-loop-mark g l = length (concat (g.S.AnyStr.elements l.text)) - l.place
