use Rattle.bytesinner.specs.splits.Yields.{next-yields}
use Rattle.bytesinner.proofs.splits.back.calls.BackCutterNextPiece.next_piece.Goals as goal

pub returns : goal.returns
returns g c =
    let k = c.args.self.now in
    next-yields k (g.met.F.Searcher.lawful k.searcher k.text) _ _ c.next_piece.ensures
