use Rattle.std.proofs.Common.{◌≤◌, length, map, slice_index, ap, ◌∙◌, arith}
use Rattle.std.proofs.lemmas.List.{map-append, length-map}
use Rattle.anystr.specs.Limits.{most_bytes}
use Rattle.anystr.specs.Refusals.{coded}
use Rattle.bytesinner.proofs.tables.Batches.{batch_pushed}
use Rattle.bytesinner.proofs.tables.translate.push_all.Goals as goal

pub loop-part-preserved : goal.loop-part-preserved
loop-part-preserved g c =
    let f = slice_index c.args.table.now in
    let inv = c.loop-part.invariant in
    let steps = c.in-Some.ensures.steps in
    let part = c.in-Some.part.now in
    let mapped = c.map_words.ensures ∙ ap (map f) c.copy_from_slice.ensures.after in
    let images = c.map_words.new.bytes in
    let few : length images ≤ most_bytes =
    omega (arith, ap length mapped, length-map part f, steps.1.1, inv.size) in
    let push = c.push_str.ensures in
    record {
      size = steps.0 ∙ inv.size;
      poured = batch_pushed (map f) (map-append f) part _ images _ (coded c.push_str.result) steps.1.0 mapped few
          c.new.ensures.given inv.poured push.fills;
      same_loan = push.same_loan ∙ inv.same_loan;
    }
