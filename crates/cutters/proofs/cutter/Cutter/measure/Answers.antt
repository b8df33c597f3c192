use Rattle.std.proofs.Common.{◌-◌, length, ap, arith}
use Rattle.searchers.specs.Marks.{Span}
use Rattle.cutters.specs.Calls.{poured_by}
use Rattle.cutters.proofs.Tallying.{Measured, measured, place-within}
use Rattle.cutters.proofs.cutter.Cutter.measure.Given as given
use Rattle.cutters.proofs.cutter.Cutter.measure.Goals as goal
use Rattle.cutters.proofs.cutter.Cutter.measure.Goals.{After-bytes_len}

pub overflow_sub-result : goal.overflow_sub-result
overflow_sub-result g c =
    let rest = c.rest-start.ensures.step.0 in
    omega (arith, place-within c.args.self.now, ap (λ (p : Span). p.0) rest, ap (λ (p : Span). p.1) rest)

sums : (g : given.Over) (c : After-bytes_len g)
    → Measured (length (poured_by c.args.self.now c.args.to.now)) (c.rest-start.result.end - c.rest-start.result.start)
    c.tally-marks.result.marks c.bytes_len.result c.tally-marks.result.bytes
sums g c =
    let k = c.args.self.now in
    let to = c.args.to.now in
    measured k (g.met.F.Searcher.lawful k.searcher k.text) c.requires (g.S.AnyStr.few k.text) to (g.S.AnyStr.few to) _
    c.rest-start.ensures.step.0 c.tally-marks.result c.tally-marks.ensures c.bytes_len.result c.bytes_len.ensures

pub overflow_mul-result : goal.overflow_mul-result
overflow_mul-result g c = omega (arith, (sums g c).copies)

pub overflow_add-result : goal.overflow_add-result
overflow_add-result g c = omega (arith, (sums g c).copies, (sums g c).few)

pub overflow_sub-result-2 : goal.overflow_sub-result-2
overflow_sub-result-2 g c = omega (arith, (sums g c).sum)

pub returns : goal.returns
returns g c = omega (arith, (sums g c).sum)
