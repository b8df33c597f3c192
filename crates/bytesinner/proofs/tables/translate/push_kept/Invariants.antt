use Rattle.std.proofs.Common.{◌≡◌}
use Rattle.std.specs.Slice.Iter.{chunks_rest, chunks_size}
use Rattle.trays.specs.Trays.{gained}
use Rattle.cutters.proofs.Pouring.{Pouring}
use Rattle.bytesinner.specs.tables.Entries.{images_in}
use Rattle.bytesinner.proofs.tables.translate.push_kept.Given as goal

-- with the images of those of the bytes left that stay, the tray holds those of all that stay
abbrev pub invariant-loop-part : goal.invariant-loop-part
invariant-loop-part g l = record {
  size : chunks_size l.part-iterator ≡ 512;
  poured : Pouring (g.T.AnyStrContainer.contents l.tray)
      (images_in l.entries.cells (chunks_rest l.part-iterator))
      (gained (g.T.AnyStrContainer.contents l.initial.tray) (images_in l.entries.cells l.bytes));
  same_loan : g.T.AnyStrContainer.loan l.tray ≡ g.T.AnyStrContainer.loan l.initial.tray;
}
