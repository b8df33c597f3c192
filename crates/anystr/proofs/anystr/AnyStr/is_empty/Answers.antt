use Rattle.std.proofs.Common.{ap}
use Rattle.std.specs.Prelude.{◌==◌}
use Rattle.anystr.proofs.anystr.AnyStr.is_empty.Goals as goal

pub returns : goal.returns
returns g c = ap (λ n. n == 0) c.bytes_len.ensures
