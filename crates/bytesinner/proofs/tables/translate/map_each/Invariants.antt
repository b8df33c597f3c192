use Rattle.std.proofs.Common.{◌≡◌, ◌++◌, map, take, drop, slice_index}
use Rattle.bytesinner.proofs.tables.translate.map_each.Given as goal

-- the bytes so far are mapped, and the others are as they were
abbrev pub invariant-loop-b : goal.invariant-loop-b
invariant-loop-b l =
    l.bytes ≡ map (slice_index l.table) (take l.b-index l.initial.bytes) ++ drop l.b-index l.initial.bytes
