use Rattle.bytesinner.proofs.joins.Law.{join_law}
use Rattle.bytesinner.proofs.joins.join.Goals as goal

pub returns-then-places-gt-MAX_PLACES-clause-law : goal.returns-then-places-gt-MAX_PLACES-clause-law
returns-then-places-gt-MAX_PLACES-clause-law g c = join_law _ _ _

pub returns-in_err-needed-clause-law : goal.returns-in_err-needed-clause-law
returns-in_err-needed-clause-law g c = join_law _ _ _

pub returns-then-free-needed-clause-law : goal.returns-then-free-needed-clause-law
returns-then-free-needed-clause-law g c = join_law _ _ _

pub returns-clause-law : goal.returns-clause-law
returns-clause-law g c = join_law _ _ _
