use Rattle.std.proofs.Common.{◌≡◌, ℕ, ◌+◌, ◌<◌, length, slice_index}
use Rattle.bytesinner.specs.tables.Tables.{byte_values}
use Rattle.bytesinner.proofs.tables.entries.Entries.new.Given as goal

-- the entries so far are those of bytes that stay
abbrev pub invariant-loop-b : goal.invariant-loop-b
invariant-loop-b l = record {
  long : length l.cells ≡ byte_values;
  made : (k : ℕ) → k < l.b → slice_index l.cells k ≡ byte_values + slice_index l.table k;
}
