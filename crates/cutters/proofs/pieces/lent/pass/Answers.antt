use Rattle.std.proofs.Common.{ℕ, sym, ◌∙◌}
use Rattle.cutters.specs.Calls.{span}
use Rattle.cutters.proofs.pieces.Written.{comes}
use Rattle.cutters.proofs.pieces.lent.pass.Goals as goal

pub loop-preserved : goal.loop-preserved
loop-preserved g c =
    let left = g.C.NextPiece.left in
    let i : ℕ = c.loop.counter in
    (comes (left c.args.cutter.now) (left c.next_piece.new.self) i (span c.in-Some.field-0)
    (sym c.loop.invariant ∙ c.in-Some.ensures)).others
