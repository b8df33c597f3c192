use Rattle.std.proofs.Common.{◌≡◌, ◌+◌, ◌-◌, ◌≤◌, length}
use Rattle.std.specs.List.{concat}
use Rattle.searchers.specs.Seen.{IsSeenOf}
use Rattle.cuts.specs.Cuts.{size, cut_from, cut_bytes}
use Rattle.cutters.specs.Calls.{opening}
use Rattle.cutters.specs.Tallies.{marks_ahead}
use Rattle.cutters.proofs.cutter.Cutter.walk.Given as goal

-- the marks so far, with those that are still to be cut, are all of them
abbrev pub invariant-loop-text : goal.invariant-loop-text
invariant-loop-text g l = record {
  seen : IsSeenOf (g.F.Searcher.marks l.self.searcher (g.S.AnyStr.elements l.self.text)) l.seen;
  within : l.place ≤ size (opening l.self);
  few : l.made ≤ l.place;
  behind : (l.tally.marks ≤ l.place) × (l.tally.bytes ≤ l.place);
  marks : l.tally.marks + length (cut_from (opening l.self) l.made l.place) ≡ length (marks_ahead l.self);
  bytes : l.tally.bytes + cut_bytes (cut_from (opening l.self) l.made l.place) ≡ cut_bytes (marks_ahead l.self);
}

abbrev pub decreases-loop-text : goal.decreases-loop-text
decreases-loop-text g l = length (concat (g.S.AnyStr.elements l.self.text)) - l.place
