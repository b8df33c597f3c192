use Rattle.cutters.specs.Calls.{span, left_pieces}
use Rattle.cutters.specs.pieces.Yields.{next_yields}
use Rattle.cutters.proofs.Yielding.{goes_on}
use Rattle.cutters.proofs.cutter.iter.PiecesLeftIterator.next.Goals as goal

pub returns-clause-goes : goal.returns-clause-goes
returns-clause-goes g c =
    let k = c.args.self.now.cutter in
    let e = c.next.ensures in
    goes_on span (λ s. left_pieces s.cutter) c.args.self.now c.next.result (record { cutter = c.next.new.self })
    (next_yields g.met.F.Searcher.lawful k c.next.new.self c.next.result
    (record { step = e.step; same = e.same; cut = e.cut }))
