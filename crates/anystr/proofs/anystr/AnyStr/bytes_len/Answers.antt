use Rattle.std.proofs.Common.{length, ap}
use Rattle.anystr.proofs.anystr.AnyStr.bytes_len.Goals as goal

pub returns : goal.returns
returns g c = ap length c.as_bytes.ensures
