use Rattle.std.proofs.Common.{◌≡◌, map, slice_index}
use Rattle.std.specs.Slice.Iter.{chunks_rest, chunks_size}
use Rattle.trays.specs.Trays.{gained}
use Rattle.cutters.proofs.Pouring.{Pouring}
use Rattle.bytesinner.proofs.tables.translate.push_all.Given as goal

-- with what the bytes left map to the tray holds the images of all
abbrev pub invariant-loop-part : goal.invariant-loop-part
invariant-loop-part g l = record {
  size : chunks_size l.part-iterator ≡ 512;
  poured : Pouring (g.T.AnyStrContainer.contents l.tray)
      (map (slice_index l.table) (chunks_rest l.part-iterator))
      (gained (g.T.AnyStrContainer.contents l.initial.tray) (map (slice_index l.table) l.bytes));
  same_loan : g.T.AnyStrContainer.loan l.tray ≡ g.T.AnyStrContainer.loan l.initial.tray;
}
