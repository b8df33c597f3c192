use Rattle.cutters.specs.Calls.{span}
use Rattle.cutters.proofs.Yielding.{goes_on}
use Rattle.bytesinner.specs.splits.Back.{left_pieces}
use Rattle.bytesinner.specs.splits.Yields.{next-yields}
use Rattle.bytesinner.proofs.splits.back.calls.BackCutterIterator.next.Goals as goal

pub returns-clause-goes : goal.returns-clause-goes
returns-clause-goes g c =
    let k = c.args.self.now in
    let law = g.met.F.Searcher.lawful k.searcher k.text in
    goes_on span left_pieces k _ _ (next-yields k law _ _ c.next_piece.ensures)
