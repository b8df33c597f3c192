use Rattle.std.proofs.Common.{◌≡◌, ℕ, sym, refl, ap, ◌∙◌, add-one, arith}
use Rattle.cuts.specs.Cuts.{next_of, nexts}
use Rattle.cuts.proofs.Left.{nexts_more}
use Rattle.cuts.proofs.Skips.{skip_passes}
use Rattle.cutters.specs.Calls.{opening, state, span}
use Rattle.cutters.proofs.Same.{same_again, step_on}
use Rattle.cutters.proofs.Turns.{gave_on}
use Rattle.cutters.proofs.cutter.Cutter.skip.Goals as goal

pub loop-left-preserved : goal.loop-left-preserved
loop-left-preserved g c =
    let k = c.args.self.now in
    let here = c.loop-left.self in
    let after = c.next.new.self in
    let n : ℕ = c.loop-left.left in
    let inv = c.loop-left.invariant in
    let on = opening k in
    let law = g.met.F.Searcher.lawful k.searcher k.text in
    let e = c.in-Some.ensures in
    let st = step_on k here after (span c.in-Some.field-0) inv.2 e.step in
    let one = (gave_on k here after _ law inv.2 e.step).left in (
      st.1
          ∙ ((λ i. (next_of on (inv.0 i)).1)
          ∙ (sym (nexts_more on n (state k)) ∙ (λ i. nexts on (sym (add-one n) i) (state k)))),
      omega (arith, inv.1),
      same_again k here after inv.2 e.same,
    )

pub loop-left-init : goal.loop-left-init
loop-left-init g c = (refl, omega arith, record { text = refl; searcher = refl; bound = refl })

pub returns-clause-step : goal.returns-clause-step
returns-clause-step g c =
    let k = c.args.self.now in
    let all : c.loop-left.left ≡ c.args.n = omega arith in (
      skip_passes (opening k) c.args.n (state k) (omega (arith, all)),
      c.loop-left.invariant.0 ∙ ap (λ n. nexts (opening k) n (state k)) all,
    )
