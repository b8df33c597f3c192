use Rattle.std.proofs.Common.{◌≡◌, ◌-◌, length}
use Rattle.anystr.specs.Bytes.{byte_list}
use Rattle.bytesinner.specs.tables.Tables.{byte_values}
use Rattle.bytesinner.proofs.tables.Partners.{Partners}
use Rattle.bytesinner.proofs.tables.maketrans.maketrans.Given as goal

-- the table has the partners of the pairs so far, which are the last ones
abbrev pub invariant-loop-key : goal.invariant-loop-key
invariant-loop-key g l =
    let from = byte_list l.from in
    let to = byte_list l.to in
    record {
      long : length l.table ≡ byte_values;
      even : length from ≡ length to;
      partners : Partners l.table from to (length from - length l.yielded);
    }
