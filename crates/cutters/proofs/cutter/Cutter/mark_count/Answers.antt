use Rattle.std.proofs.Common.{ℕ, ℤ, IsTrue, sym, subst, w64, SFits, rules}
use Rattle.std.proofs.lemmas.Int.{to_z-of_z}
use Rattle.cuts.specs.Cuts.{fewer}
use Rattle.cuts.proofs.Found.{length-cut_from}
use Rattle.cutters.specs.Calls.{opening}
use Rattle.cutters.proofs.cutter.Cutter.mark_count.Goals as goal

pub returns-then-unbounded : goal.returns-then-unbounded
returns-then-unbounded g c =
    let k = c.args.self.now in
    let law = g.met.F.Searcher.lawful k.searcher k.text in
    let fits : SFits w64 k.bound = search rules in
    let few =
    subst (λ (z : ℤ). (made : ℕ) → IsTrue (fewer made z)) (to_z-of_z w64 k.bound fits)
    (c.unbounded.ensures.0 c.if-unbounded.true) in
    let n = c.count_cuts.result in
    sym (length-cut_from (opening k) law few n k.progress.made k.progress.place c.count_cuts.ensures)
