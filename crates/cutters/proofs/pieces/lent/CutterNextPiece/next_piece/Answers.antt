use Rattle.cutters.specs.pieces.Yields.{next_yields}
use Rattle.cutters.proofs.pieces.lent.CutterNextPiece.next_piece.Goals as goal

pub returns : goal.returns
returns g c =
    let e = c.next.ensures in
    next_yields g.met.F.Searcher.lawful c.args.self.now c.next.new.self c.next.result
    (record { step = e.step; same = e.same; cut = e.cut })
