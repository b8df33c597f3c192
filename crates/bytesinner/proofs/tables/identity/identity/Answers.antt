use Rattle.std.proofs.Common.{rules}
use Rattle.bytesinner.proofs.tables.identity.identity.Goals as goal

pub returns : goal.returns
returns c b h = let t = (c.from_fn.ensures.items.at b 0 h).2 in search rules
