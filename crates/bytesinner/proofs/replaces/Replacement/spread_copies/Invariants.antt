use Rattle.std.proofs.Common.{◌≡◌}
use Rattle.anystr.specs.Elements.{offset}
use Rattle.anystr.specs.Texts.{bytes_of}
use Rattle.trays.specs.Gathers.{gathered_contents, gathered_loan, lent_tray}
use Rattle.trays.specs.Trays.{gained}
use Rattle.cutters.proofs.Pouring.{Pouring}
use Rattle.bytesinner.specs.replaces.Replacements.{copies_spread}
use Rattle.bytesinner.proofs.replaces.Turning.{left}
use Rattle.bytesinner.proofs.replaces.Replacement.spread_copies.Given as goal

-- the place is that of the next element, and with what is left to be spread the tray holds all
abbrev pub invariant-loop : goal.invariant-loop
invariant-loop g l = record {
  place : l.place ≡ offset (g.S.AnyStr.elements l.self.text) l.counter;
  poured : Pouring (gathered_contents l.gather)
      (left (bytes_of g.S.AnyStr l.self.to) (g.S.AnyStr.elements l.self.text) l.copies l.counter)
      (gained (g.T.AnyStrContainer.contents l.fn.tray) (copies_spread g.S.AnyStr l.self));
  same_loan : gathered_loan l.gather ≡ g.T.AnyStrContainer.loan l.fn.tray;
  lent : lent_tray l.gather ≡ lent_tray l.initial.gather;
}
