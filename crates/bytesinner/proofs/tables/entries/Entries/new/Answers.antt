use Rattle.std.proofs.Common.{◌≡◌, ℕ, ◌+◌, slice_index, length-set, ◌∙◌, arith}
use Rattle.std.proofs.lemmas.List.Edits.{fill_by_more}
use Rattle.bytesinner.specs.tables.Tables.{byte_values}
use Rattle.bytesinner.proofs.tables.entries.Entries.new.Goals as goal

pub loop-b-preserved : goal.loop-b-preserved
loop-b-preserved c =
    let cells = c.loop-b.cells in
    let inv = c.loop-b.invariant in
    let b = c.loop-b.b in
    let entry : ℕ → ℕ = λ k. byte_values + slice_index c.args.table.now k in
    let here : byte_values + c.from.result ≡ entry b = omega arith in
    record {
      long = length-set cells b _ ∙ inv.long;
      made = rw here (fill_by_more entry cells b 0 (omega arith) inv.made);
    }
