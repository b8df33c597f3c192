use Rattle.std.proofs.Common.{◌≡◌, ap, ◌∙◌}
use Rattle.std.specs.List.{concat}
use Rattle.anystr.specs.Bytes.{byte_list}
use Rattle.anystr.specs.OfBytes.{singles, concat-singles}
use Rattle.anystr.specs.Refusals.{coded}
use Rattle.trays.proofs.Gains.{took}
use Rattle.trays.proofs.gather.append.Goals as goal

pub returns-clause-gained : goal.returns-clause-gained
returns-clause-gained g c =
    let bytes = c.args.bytes.now in
    let made : concat (singles (byte_list c.new.result)) ≡ bytes =
    ap concat (c.new.ensures.given c.requires.few) ∙ concat-singles bytes in
    took _ _ _ (coded c.push_str.result) c.requires.fits (rw made at c.push_str.ensures.fills)
