use Rattle.std.proofs.Common.{rules}
use Rattle.bytesinner.proofs.splitting.rsplit.Goals as goal

pub returns-in-None-clause-list : goal.returns-in-None-clause-list
returns-in-None-clause-list g c = rw c.in-None.is (search rules)
