use Rattle.std.proofs.Common.{◌≡◌, List, map, take, drop}
use Rattle.std.specs.List.{All}
use Rattle.cuts.specs.Cuts.{at_opening}
use Rattle.cuts.specs.Runs.{Event, Run}
use Rattle.cutters.specs.Calls.{opening, state, SameOpening}
use Rattle.cutters.specs.Plays.{AnswerOn, Plays}
use Rattle.cutters.proofs.play.play.Given as goal

-- the calls so far are a run, and their answers stand first
abbrev pub invariant-loop-i : goal.invariant-loop-i
invariant-loop-i g l = record {
  run : (es : List Event) × Run (opening l.initial.cutter) at_opening es (state l.cutter)
      × Plays g.S.AnyStr (take l.i l.calls) (take l.i l.answers) (map g.T.AnyStrContainer.contents l.initial.trays) es
      (map g.T.AnyStrContainer.contents l.trays);
  cut : All (AnswerOn (g.S.AnyStr.elements l.fn.text)) (take l.i l.answers);
  later : drop l.i l.answers ≡ drop l.i l.initial.answers;
  same : SameOpening l.initial.cutter l.cutter;
  same_loans : map g.T.AnyStrContainer.loan l.trays ≡ map g.T.AnyStrContainer.loan l.initial.trays;
}
