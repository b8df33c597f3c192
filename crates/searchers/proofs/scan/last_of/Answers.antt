use Rattle.std.proofs.Common.{◌≡◌, ℕ, ◌+◌, ◌-◌, ◌<◌, IsTrue, arith, ap, subst, ⊎_elim, ◌∙◌}
use Rattle.std.specs.Int.{bit_at}
use Rattle.std.proofs.lemmas.Bool.{cases_lt, cases_eq}
use Rattle.std.proofs.lemmas.Nat.Bits.{bit_at_above, bit_at-zero}
use Rattle.searchers.proofs.scan.last_of.Goals as goal

pub loop-left-preserved : goal.loop-left-preserved
loop-left-preserved g c =
    let marks = g.P.Pattern.marks c.args.pattern.now c.args.bytes.now in
    let left = c.loop-left.left in
    let small : left < 18446744073709551616 = omega (arith, c.loop-left.invariant.0, c.ranges.ends.fits) in (
      omega (arith, c.loop-left.invariant.0, c.without-left.ensures.smaller),
      λ to all.
          let before = c.loop-left.invariant.1 to all in record {
            may = λ b e ge le m.
                let k : ℕ = e - c.args.at - 1 in
                let set = before.may b e ge le m in
                ⊎_elim
                (λ same.
                let there : c.args.at + c.highest-bit.result + 1 ≡ e = omega arith in
                absurd (c.in_default.ensures b (subst (λ (p : ℕ). IsTrue (marks b p)) (omega arith) m)))
                (λ apart. c.without-left.ensures.kept k
                (⊎_elim (λ lt. lt) (λ past. absurd (omega (arith, bit_at_above left 64 k small past))) (cases_lt k 64))
                apart ∙ set)
                (cases_eq k c.highest-bit.result);
            below = λ k set. before.below k (c.without-left.ensures.no_more k set);
          },
    )

pub returns : goal.returns
returns g c to all b e ge le m =
    let k : ℕ = e - c.args.at - 1 in
    let set = (c.loop-left.invariant.1 to all).may b e ge le m in
    omega (arith, bit_at-zero k, ap (λ (n : ℕ). bit_at n k) c.loop-left-test.false)

pub returns-in-Some : goal.returns-in-Some
returns-in-Some g c to all =
    let now = c.loop-left.invariant.1 to all in record {
      ahead = omega (arith, now.below c.highest-bit.result c.highest-bit.ensures.set);
      is = c.in-Some.ensures;
      greatest = λ b e le m.
          ⊎_elim
          (λ lt.
          let k : ℕ = e - c.args.at - 1 in
          let set = now.may b e (omega arith) le m in
          absurd (omega (arith, c.highest-bit.ensures.above k (omega arith))))
          (λ le. le)
          (cases_lt (c.args.at + c.highest-bit.result + 1) e);
    }
