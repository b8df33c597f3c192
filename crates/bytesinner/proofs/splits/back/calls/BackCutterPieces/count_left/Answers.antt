use Rattle.std.proofs.Common.{◌∙◌, inl, arith}
use Rattle.cutters.proofs.pieces.Counted.{counted}
use Rattle.bytesinner.specs.splits.Back.{left_pieces, BackStep}
use Rattle.bytesinner.specs.splits.Yields.{next-yields, counts_down}
use Rattle.bytesinner.proofs.splits.back.calls.BackCutterPieces.count_left.Goals as goal

pub count-requires-clause-fits : goal.count-requires-clause-fits
count-requires-clause-fits g c =
    let k = c.args.self in
    let law = g.met.F.Searcher.lawful k.searcher k.text in
    inl (omega (arith, (counts_down k law (g.S.AnyStr.few k.text)).few))

pub returns : goal.returns
returns g c =
    let ran = c.count.ensures.ran in
    ran.2
    ∙ counted BackStep left_pieces (λ k. next-yields k (g.met.F.Searcher.lawful k.searcher k.text)) c.args.self
    ran.0 ran.1
