use Rattle.std.proofs.Common.{◌≡◌, ◌≤◌, take}
use Rattle.bytesinner.specs.tables.Entries.{images_in}
use Rattle.bytesinner.proofs.tables.entries.Entries.map_kept.Given as goal

-- in front stand the images of those of the bytes so far that stay
abbrev pub invariant-loop-b : goal.invariant-loop-b
invariant-loop-b l = record {
  within : l.kept ≤ l.b-index;
  written : take l.kept l.images ≡ images_in l.self.cells (take l.b-index l.bytes);
}
