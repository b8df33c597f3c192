use Rattle.std.proofs.Common.{◌≡◌, ◌*◌, ap, ◌∙◌, sym, refl, arith}
use Rattle.cuts.specs.Cuts.{cut_bytes}
use Rattle.cuts.proofs.Sizes.{cut_bytes-even}
use Rattle.cutters.specs.Calls.{opening}
use Rattle.cutters.specs.Tallies.{marks_ahead}
use Rattle.cutters.proofs.Tallying.{ahead_bytes}
use Rattle.cutters.proofs.cutter.Cutter.tally.Given as given
use Rattle.cutters.proofs.cutter.Cutter.tally.Goals as goal

-- as many lengths are the bytes of the marks
even : (g : given.Over) (c : goal.After-mark_count-marks g)
    → c.mark_count-marks.result * c.in-Some.len ≡ cut_bytes (marks_ahead c.args.self.now)
even g c =
    let k = c.args.self.now in
    let law = g.met.F.Searcher.lawful k.searcher k.text in
    let bytes =
    cut_bytes-even (opening k) law c.in-Some.len c.in-Some.ensures (marks_ahead k) k.progress.made k.progress.place
    refl in
    ap (λ n. n * c.in-Some.len) c.mark_count-marks.ensures ∙ sym bytes

pub overflow_mul-result : goal.overflow_mul-result
overflow_mul-result g c =
    let k = c.args.self.now in
    let law = g.met.F.Searcher.lawful k.searcher k.text in
    omega (arith, even g c, ahead_bytes k law, g.S.AnyStr.few k.text)

pub returns-in-Some : goal.returns-in-Some
returns-in-Some g c = record { marks = c.mark_count-marks.ensures; bytes = even g c }
