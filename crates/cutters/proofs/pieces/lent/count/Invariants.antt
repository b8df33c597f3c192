use Rattle.std.proofs.Common.{◌≡◌, ◌+◌, length}
use Rattle.cutters.proofs.pieces.lent.count.Given as goal

-- as many are counted as came
abbrev pub invariant-loop-n : goal.invariant-loop-n
invariant-loop-n g l = l.n + length (g.C.NextPiece.left l.cutter) ≡ length (g.C.NextPiece.left l.initial.cutter)

abbrev pub decreases-loop-n : goal.decreases-loop-n
decreases-loop-n g l = length (g.C.NextPiece.left l.cutter)
