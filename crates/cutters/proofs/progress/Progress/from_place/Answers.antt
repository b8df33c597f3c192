use Rattle.std.proofs.Common.{refl}
use Rattle.cutters.proofs.progress.Progress.from_place.Goals as goal

pub returns : goal.returns
returns c = refl
