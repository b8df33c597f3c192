use Rattle.std.proofs.Common.{take}
use Rattle.bytesinner.specs.tables.Translations.{image, table_in}
use Rattle.bytesinner.proofs.tables.Deleted.{EntriesOf}
use Rattle.bytesinner.proofs.tables.translate.translate.Given as goal

-- each byte has the entry of its image, and of the bytes so far of one that goes
abbrev pub invariant-loop-d : goal.invariant-loop-d
invariant-loop-d g l = EntriesOf l.entries.cells (image (table_in l.options)) (take l.d-index l.delete)
