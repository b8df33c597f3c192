use Rattle.std.proofs.Common.{rules}
use Rattle.anystr.specs.Bytes.{byte_list}
use Rattle.bytesinner.specs.finds.Asked.{Keeps}
use Rattle.bytesinner.specs.finds.Places.{rfind_of, LastPlace}
use Rattle.bytesinner.proofs.finds.Meant.{answers}
use Rattle.bytesinner.proofs.finds.Standing.{last-is}
use Rattle.bytesinner.proofs.finds.find.rfind.Goals as goal

pub returns : goal.returns
returns c =
    let bs = byte_list c.args.text.now in
    let law : Keeps LastPlace bs c.args.options c.ask.result = search rules in
    let value = answers rfind_of LastPlace bs c.args.options (λ n a b x within. last-is bs n b within a x) _ law in
    record { value = value; law = law }
