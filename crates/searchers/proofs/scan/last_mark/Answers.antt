use Rattle.std.proofs.Common.{◌≡◌, ℕ, ◌-◌, IsTrue, None, subst, arith}
use Rattle.searchers.specs.Seen.{NoneEnds}
use Rattle.searchers.proofs.Found.{found_earlier, found_to_start, none_back, none_past}
use Rattle.searchers.proofs.scan.last_mark.Goals as goal

pub returns-then-to-end-eq-CLOSE : goal.returns-then-to-end-eq-CLOSE
returns-then-to-end-eq-CLOSE g c =
    let marks = g.P.Pattern.marks c.args.pattern.now c.args.bytes.now in
    let law = g.P.Pattern.lawful c.args.pattern.now c.args.bytes.now in
    let to : ℕ = c.min-to.result in
    let at : ℕ = c.loop-end.end in
    let inv = c.loop-end.invariant in
    let past = none_past marks _ c.args.before to law (λ e le within. omega (arith, c.min-to.ensures)) in
    let here : NoneEnds marks (at - 1) at =
    λ b e ge le m. c.in_default.ensures b (subst (λ (p : ℕ). IsTrue (marks b p)) (omega arith) m) in
    let none = none_back marks (at - 1) at to inv.1 here in
    let near = c.previous_mark.ensures.value (c.nothing.ensures marks) in
    let within = found_earlier marks to (at - 1) c.previous_mark.result (omega (arith, inv.0)) none near in
    found_earlier marks c.args.before to c.previous_mark.result (omega (arith, c.min-to.ensures)) past within

pub returns : goal.returns
returns g c =
    let marks = g.P.Pattern.marks c.args.pattern.now c.args.bytes.now in
    let law = g.P.Pattern.lawful c.args.pattern.now c.args.bytes.now in
    let to : ℕ = c.min-to.result in
    let past = none_past marks _ c.args.before to law (λ e le within. omega (arith, c.min-to.ensures)) in
    let start : c.loop-end.end ≡ 0 = omega arith in
    let none = subst (λ (n : ℕ). NoneEnds marks n to) start c.loop-end.invariant.1 in
    found_earlier marks c.args.before to None (omega (arith, c.min-to.ensures)) past
    (found_to_start marks _ to None law none)
