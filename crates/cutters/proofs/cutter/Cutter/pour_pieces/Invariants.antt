use Rattle.std.proofs.Common.{◌≡◌, ◌+◌, true, length}
use Rattle.std.specs.List.{concat}
use Rattle.trays.specs.Gathers.{gathered_contents, gathered_loan, lent_tray}
use Rattle.trays.specs.Trays.{gained}
use Rattle.cuts.specs.Cuts.{size, to_cut, pieces_left}
use Rattle.cuts.proofs.Left.{to_pour}
use Rattle.cutters.specs.Calls.{opening, state, SameOpening}
use Rattle.cutters.proofs.Pouring.{Pouring}
use Rattle.cutters.proofs.cutter.Cutter.pour_pieces.Given as goal

-- with what is still to be poured, the tray holds the bytes of the whole rest
abbrev pub invariant-loop-piece : goal.invariant-loop-piece
invariant-loop-piece g l = record {
  poured : Pouring (gathered_contents l.gather)
      (to_pour (opening l.initial.self) (concat (g.S.AnyStr.elements l.to)) (state l.self))
      (gained (g.T.AnyStrContainer.contents l.fn.tray)
      (to_pour (opening l.initial.self) (concat (g.S.AnyStr.elements l.to)) (state l.initial.self)));
  same_loan : gathered_loan l.gather ≡ g.T.AnyStrContainer.loan l.fn.tray;
  lent : lent_tray l.gather ≡ lent_tray l.initial.gather;
  made : l.self.progress.made + length (to_cut (opening l.initial.self) (state l.self))
      ≡ l.initial.self.progress.made + length (to_cut (opening l.initial.self) (state l.initial.self));
  ended : l.self.progress.spent ≡ true → l.self.progress.place ≡ size (opening l.initial.self);
  same : SameOpening l.initial.self l.self;
}

abbrev pub decreases-loop-piece : goal.decreases-loop-piece
decreases-loop-piece g l = length (pieces_left (opening l.initial.self) (state l.self))
