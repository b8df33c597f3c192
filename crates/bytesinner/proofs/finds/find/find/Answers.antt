use Rattle.std.proofs.Common.{rules}
use Rattle.anystr.specs.Bytes.{byte_list}
use Rattle.bytesinner.specs.finds.Asked.{Keeps}
use Rattle.bytesinner.specs.finds.Places.{find_of, FirstPlace}
use Rattle.bytesinner.proofs.finds.Meant.{answers}
use Rattle.bytesinner.proofs.finds.Standing.{first-is}
use Rattle.bytesinner.proofs.finds.find.find.Goals as goal

pub returns : goal.returns
returns c =
    let bs = byte_list c.args.text.now in
    let law : Keeps FirstPlace bs c.args.options c.ask.result = search rules in
    let value = answers find_of FirstPlace bs c.args.options (λ n a b x within. first-is bs n b within a x) _ law in
    record { value = value; law = law }
