use Rattle.std.proofs.Common.{refl}
use Rattle.cutters.proofs.piece.PlaceFromPiece.from.Goals as goal

pub returns : goal.returns
returns c = refl
