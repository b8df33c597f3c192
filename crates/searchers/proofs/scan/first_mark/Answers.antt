use Rattle.std.proofs.Common.{ℕ, ◌+◌, IsTrue, subst, arith}
use Rattle.searchers.specs.Seen.{NoneBegins}
use Rattle.searchers.proofs.Found.{found_later, none_further, none_to_end}
use Rattle.searchers.proofs.scan.first_mark.Goals as goal

pub returns-then-start-from-eq-CLOSE : goal.returns-then-start-from-eq-CLOSE
returns-then-start-from-eq-CLOSE g c =
    let marks = g.P.Pattern.marks c.args.pattern.now c.args.bytes.now in
    let at : ℕ = c.loop-start.start in
    let inv = c.loop-start.invariant in
    let here : NoneBegins marks at (at + 1) =
    λ b e ge lt m. c.in_default.ensures e (subst (λ (p : ℕ). IsTrue (marks p e)) (omega arith) m) in
    let none = none_further marks c.args.from at (at + 1) inv.1 here in
    let near = c.next_mark.ensures.value (c.nothing.ensures marks) in
    found_later marks c.args.from (at + 1) c.next_mark.result (omega (arith, inv.0)) none near

pub returns : goal.returns
returns g c =
    let marks = g.P.Pattern.marks c.args.pattern.now c.args.bytes.now in
    let law = g.P.Pattern.lawful c.args.pattern.now c.args.bytes.now in
    none_to_end marks c.args.from c.loop-start.start _ law (omega arith) c.loop-start.invariant.1
