use Rattle.std.proofs.Common.{◌≡◌, drop}
use Rattle.cutters.proofs.pieces.lent.pass.Given as goal

-- what is left of the cutter follows the pieces that came
abbrev pub invariant-loop : goal.invariant-loop
invariant-loop g l = g.C.NextPiece.left l.cutter ≡ drop l.counter (g.C.NextPiece.left l.initial.cutter)
