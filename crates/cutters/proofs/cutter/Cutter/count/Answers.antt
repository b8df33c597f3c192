use Rattle.std.proofs.Common.{arith}
use Rattle.cuts.proofs.Sizes.{length-pieces_left, pieces_few}
use Rattle.cutters.specs.Calls.{opening, state}
use Rattle.cutters.proofs.cutter.Cutter.count.Goals as goal

pub overflow_add-result : goal.overflow_add-result
overflow_add-result g c =
    let k = c.args.self.now in
    let law = g.met.F.Searcher.lawful k.searcher k.text in
    let few = pieces_few (opening k) law (g.S.AnyStr.few k.text) (state k) in
    let one_more = length-pieces_left (opening k) law (state k) c.if-self.false in
    omega (arith, few, one_more, c.mark_count.ensures)

pub returns-else-self : goal.returns-else-self
returns-else-self g c =
    let k = c.args.self.now in
    let law = g.met.F.Searcher.lawful k.searcher k.text in
    omega (arith, length-pieces_left (opening k) law (state k) c.if-self.false, c.mark_count.ensures)
