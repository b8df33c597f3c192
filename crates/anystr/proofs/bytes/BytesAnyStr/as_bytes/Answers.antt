use Rattle.std.proofs.Common.{sym}
use Rattle.anystr.specs.OfBytes.{concat-singles}
use Rattle.anystr.proofs.bytes.BytesAnyStr.as_bytes.Goals as goal

pub returns : goal.returns
returns c = sym (concat-singles _)
