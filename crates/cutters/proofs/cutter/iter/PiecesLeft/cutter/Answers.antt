use Rattle.std.proofs.Common.{refl}
use Rattle.cutters.proofs.cutter.iter.PiecesLeft.cutter.Goals as goal

pub returns : goal.returns
returns g c = refl
