use Rattle.std.proofs.Common.{bit_or}
use Rattle.memchr.proofs.lemmas.LaneLemmas.{HasLanes-zip2}
use Rattle.searchers.proofs.lanes.either.Goals as goal

pub returns : goal.returns
returns c = HasLanes-zip2 bit_or c.args.a c.args.b c.fits-a.0 c.fits-b.0
