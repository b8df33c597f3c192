use Rattle.std.proofs.Common.{◌≡◌, ◌≤◌, length, take}
use Rattle.bytesinner.specs.tables.Entries.{images_in}
use Rattle.bytesinner.proofs.tables.entries.Entries.kept_len.Given as goal

-- those of the bytes so far that stay are counted
abbrev pub invariant-loop-b : goal.invariant-loop-b
invariant-loop-b l = record {
  within : l.kept ≤ l.b-index;
  counted : l.kept ≡ length (images_in l.self.cells (take l.b-index l.bytes));
}
