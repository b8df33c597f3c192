use Rattle.std.proofs.Common.{◌≡◌, ℕ, ◌+◌, ◌-◌, ◌<◌, IsTrue, arith, ap, subst, ⊎_elim, ◌∙◌}
use Rattle.std.specs.Int.{bit_at}
use Rattle.std.proofs.lemmas.Bool.{cases_lt, cases_eq}
use Rattle.std.proofs.lemmas.Nat.Bits.{bit_at_above, bit_at-zero}
use Rattle.searchers.proofs.scan.first_of.Goals as goal

pub loop-left-preserved : goal.loop-left-preserved
loop-left-preserved g c =
    let marks = g.P.Pattern.marks c.args.pattern.now c.args.bytes.now in
    let left = c.loop-left.left in
    let small : left < 18446744073709551616 = omega (arith, c.loop-left.invariant.0, c.ranges.begins.fits) in (
      omega (arith, c.loop-left.invariant.0, c.without-left.ensures.smaller),
      λ end all.
          let before = c.loop-left.invariant.1 end all in record {
            may = λ b e ge lt m.
                let k : ℕ = b - c.args.at in
                let set = before.may b e ge lt m in
                let here : c.args.at + k ≡ b = omega arith in
                ⊎_elim
                (λ same.
                let there : c.args.at + c.lowest-bit.result ≡ b = omega arith in
                absurd (c.in_default.ensures e (subst (λ (p : ℕ). IsTrue (marks p e)) (omega arith) m)))
                (λ apart. c.without-left.ensures.kept k
                (⊎_elim (λ lt. lt) (λ past. absurd (omega (arith, bit_at_above left 64 k small past))) (cases_lt k 64))
                apart ∙ set)
                (cases_eq k c.lowest-bit.result);
            below = λ k set. before.below k (c.without-left.ensures.no_more k set);
          },
    )

pub returns : goal.returns
returns g c end all b e ge lt m =
    let k : ℕ = b - c.args.at in
    let set = (c.loop-left.invariant.1 end all).may b e ge lt m in
    omega (arith, bit_at-zero k, ap (λ (n : ℕ). bit_at n k) c.loop-left-test.false)

pub returns-in-Some : goal.returns-in-Some
returns-in-Some g c end all =
    let now = c.loop-left.invariant.1 end all in record {
      after = omega arith;
      is = c.in-Some.ensures;
      least = λ b e ge m.
          ⊎_elim
          (λ lt.
          let k : ℕ = b - c.args.at in
          let under = now.below c.lowest-bit.result c.lowest-bit.ensures.set in
          let set = now.may b e ge (omega arith) m in
          absurd (omega (arith, c.lowest-bit.ensures.below k (omega arith))))
          (λ le. le)
          (cases_lt b (c.args.at + c.lowest-bit.result));
    }
