use Rattle.std.proofs.Common.{◌≤◌, length, take, ◌∙◌, length-take, arith}
use Rattle.anystr.specs.Limits.{most_bytes}
use Rattle.anystr.specs.Refusals.{coded}
use Rattle.bytesinner.specs.tables.Entries.{images_in}
use Rattle.bytesinner.proofs.tables.Batches.{images_in-append, batch_pushed}
use Rattle.bytesinner.proofs.tables.translate.push_kept.Goals as goal

pub loop-part-preserved : goal.loop-part-preserved
loop-part-preserved g c =
    let cells = c.args.entries.now.cells in
    let inv = c.loop-part.invariant in
    let steps = c.in-Some.ensures.steps in
    let written = c.map_kept-kept.ensures in
    let batch = take c.map_kept-kept.result c.map_kept-kept.new.images in
    let few : length batch ≤ most_bytes =
    omega (arith, length-take c.map_kept-kept.result c.map_kept-kept.new.images, written.within, steps.1.1, inv.size) in
    let push = c.push_str.ensures in
    record {
      size = steps.0 ∙ inv.size;
      poured = batch_pushed (images_in cells) (images_in-append cells) _ _ batch _ (coded c.push_str.result) steps.1.0
          written.written few c.new.ensures.given inv.poured push.fills;
      same_loan = push.same_loan ∙ inv.same_loan;
    }
