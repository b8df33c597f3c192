use Rattle.std.proofs.Common.{◌≡◌, map, drop}
use Rattle.anystr.specs.Places.{stretches, part}
use Rattle.anystr.specs.Texts.{bytes_of}
use Rattle.trays.specs.Gathers.{gathered_contents, gathered_loan, lent_tray}
use Rattle.trays.specs.Trays.{gained}
use Rattle.cutters.proofs.Pouring.{Pouring}
use Rattle.bytesinner.specs.joins.Parts.{joined_parts}
use Rattle.bytesinner.proofs.joins.Joining.{rest_of}
use Rattle.bytesinner.proofs.joins.Parts.pour.Given as goal

-- with what the places left give the tray holds the bytes of all
abbrev pub invariant-loop-index : goal.invariant-loop-index
invariant-loop-index g l = record {
  poured : Pouring (gathered_contents l.gather)
      (rest_of (bytes_of g.S.AnyStr l.self.sep) l.index
      (map (part (bytes_of g.S.AnyStr l.self.text)) (stretches (drop l.index l.place-items))))
      (gained (g.T.AnyStrContainer.contents l.fn.tray) (joined_parts l.self));
  same_loan : gathered_loan l.gather ≡ g.T.AnyStrContainer.loan l.fn.tray;
  lent : lent_tray l.gather ≡ lent_tray l.initial.gather;
}
