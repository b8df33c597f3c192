use Rattle.std.proofs.Common.{◌≡◌, ◌-◌, ℕ, ℤ, suc, false, not, length, IsTrue, sym, subst, ap, ◌∙◌, eqb-true, w64}
use Rattle.std.proofs.Common.{SFits}
use Rattle.std.proofs.Common.{rules, arith}
use mathlib.Core.Bool.{false≢true}
use Rattle.std.proofs.lemmas.Int.{to_z-of_z}
use Rattle.cuts.specs.Cuts.{State, at, fewer, size}
use Rattle.cuts.specs.Splits.{left_back}
use Rattle.cuts.proofs.Ends.{back_left}
use Rattle.bytesinner.specs.splits.Back.{opening, state, left_pieces}
use Rattle.bytesinner.specs.splits.Yields.{counts_down}
use Rattle.bytesinner.proofs.splits.back.BackCutter.count_from_front.Given as given
use Rattle.bytesinner.proofs.splits.back.BackCutter.count_from_front.Goals as goal
use Rattle.bytesinner.proofs.splits.back.BackCutter.count_from_front.Goals.{then-not-self, else-not-self}

-- a cutter at the end of its text that has not given its last piece is at the start, seen from the end
at_end : (g : given.Over) (c : goal.After-count_cuts g)
    → state c.args.self.now ≡ at 0 c.args.self.now.progress.made false
at_end g c =
    let k = c.args.self.now in
    elim c.if-not-self.branch [
      | then-not-self w ↦
          let place = eqb-true k.progress.place w.bytes_len.result (sym w.is_whole-is ∙ c.if-not-is_whole.false) in
          let none : size (opening k) - k.progress.place ≡ 0 = omega (arith, place, w.bytes_len.ensures) in
          λ i. at (none i) k.progress.made (w.if-not-self.true i)
      | else-not-self w ↦
          absurd (false≢true (sym (w.is_whole-is ∙ ap not w.if-not-self.false) ∙ c.if-not-is_whole.false))
    ]

-- as many pieces are left as are counted, and one
left : (g : given.Over) (c : goal.After-count_cuts g) → length (left_pieces c.args.self.now) ≡ suc c.count_cuts.result
left g c =
    let k = c.args.self.now in
    let on = opening k in
    let law = g.met.F.Searcher.lawful k.searcher k.text in
    let fits : SFits w64 k.bound = search rules in
    let few =
    subst (λ (z : ℤ). (made : ℕ) → IsTrue (fewer made z)) (to_z-of_z w64 k.bound fits)
    (c.unbounded.ensures.0 c.if-not-unbounded.false) in
    ap (λ (s : State). length (left_back on s)) (at_end g c)
    ∙ back_left on _ c.count_cuts.result k.progress.made law c.in_ok-mark_len.ensures few c.count_cuts.ensures

pub overflow_add-result : goal.overflow_add-result
overflow_add-result g c =
    let k = c.args.self.now in
    let law = g.met.F.Searcher.lawful k.searcher k.text in
    omega (arith, left g c, (counts_down k law (g.S.AnyStr.few k.text)).few)

pub returns : goal.returns
returns g c = omega (arith, left g c)
