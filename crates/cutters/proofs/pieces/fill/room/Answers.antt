use Rattle.std.proofs.Common.{length, refl}
use Rattle.std.proofs.lemmas.Bool.{lt-leb}
use Rattle.cutters.proofs.pieces.fill.room.Goals as goal

pub returns-else-needed-places : goal.returns-else-needed-places
returns-else-needed-places c = rw (lt-leb c.args.needed (length c.args.places.now) c.if-needed-places.false) refl
