use Rattle.std.proofs.Common.{sym, ap}
use Rattle.anystr.specs.Refusals.{code}
use Rattle.anystr.proofs.refusal.Refusal.code.Goals as goal

pub returns-in-BadPlace : goal.returns-in-BadPlace
returns-in-BadPlace c = sym (ap code c.in-BadPlace.is)
