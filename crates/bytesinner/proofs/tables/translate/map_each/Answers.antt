use Rattle.std.proofs.Common.{get_or, slice_index, arith}
use Rattle.std.proofs.lemmas.List.{get_or_default}
use Rattle.std.proofs.lemmas.List.Edits.{map_over_more}
use Rattle.bytesinner.proofs.tables.translate.map_each.Goals as goal

pub loop-b-preserved : goal.loop-b-preserved
loop-b-preserved c =
    let bytes = c.loop-b.bytes in
    let i = c.loop-b.b-index in
    let read = get_or_default bytes i 0 (get_or bytes i 0) (omega arith) in
    map_over_more (slice_index c.args.table.now) c.args.bytes.now bytes i _ (omega arith) c.loop-b.invariant read
