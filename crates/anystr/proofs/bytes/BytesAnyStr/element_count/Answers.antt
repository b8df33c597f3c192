use Rattle.std.proofs.Common.{sym}
use Rattle.anystr.proofs.Singles.{length-singles}
use Rattle.anystr.proofs.bytes.BytesAnyStr.element_count.Goals as goal

pub returns : goal.returns
returns c = sym (length-singles _)
