use Rattle.std.proofs.Common.{◌≡◌, rules}
use Rattle.anystr.specs.Bytes.{byte_list}
use Rattle.anystr.specs.Refusals.{coded}
use Rattle.bytesinner.specs.finds.Asked.{answer_of}
use Rattle.bytesinner.specs.finds.Counts.{count_of, Number}
use Rattle.bytesinner.proofs.finds.Meant.{keeps}
use Rattle.bytesinner.proofs.finds.Cutting.{number_is}
use Rattle.bytesinner.proofs.finds.count.count.Goals as goal

pub returns : goal.returns
returns c =
    let bs = byte_list c.args.text.now in
    let value : coded c.ask.result ≡ answer_of count_of bs c.args.options = search rules in
    let law = keeps count_of Number bs c.args.options (number_is bs) _ value in
    record { value = value; law = law }
