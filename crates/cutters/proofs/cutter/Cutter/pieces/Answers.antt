use Rattle.std.proofs.Common.{refl}
use Rattle.cutters.proofs.cutter.Cutter.pieces.Goals as goal

pub returns : goal.returns
returns g c = refl
