use Rattle.std.proofs.Common.{refl}
use Rattle.samples.proofs.sample_count.Goals as goal

pub returns : goal.returns
returns c = record { value = refl; hold = refl }
