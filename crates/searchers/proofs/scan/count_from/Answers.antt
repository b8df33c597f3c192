use Rattle.std.proofs.Common.{◌≡◌, ℕ, suc, ◌+◌, ◌-◌, IsTrue, add-zero, arith, subst, ⊎_elim, ◌∙◌}
use Rattle.std.proofs.lemmas.Bool.{cases_lt, cases_eq}
use Rattle.searchers.specs.Marks.{CutTimes}
use Rattle.searchers.proofs.scan.count_from.Goals as goal

pub loop-left-preserved : goal.loop-left-preserved
loop-left-preserved g c =
    let marks = g.P.Pattern.marks c.args.pattern.now c.args.bytes.now in
    let at = c.loop-at.at in
    let inv = c.loop-left.invariant in (
      inv.0,
      inv.1,
      inv.2,
      inv.3,
      λ b e after ge lt m.
          let k : ℕ = b - at in
          ⊎_elim
          (λ same. absurd (c.in_default.ensures e (subst (λ (p : ℕ). IsTrue (marks p e)) (omega arith) m)))
          (λ apart. c.without-left.ensures.kept k (omega arith) apart ∙ inv.4 b e after ge lt m)
          (cases_eq k c.lowest-bit.result),
    )

pub loop-left-preserved-in-Some : goal.loop-left-preserved-in-Some
loop-left-preserved-in-Some g c =
    let marks = g.P.Pattern.marks c.args.pattern.now c.args.bytes.now in
    let at = c.loop-at.at in
    let start : ℕ = at + c.lowest-bit.result in
    let end = c.in-Some.end in
    let inv = c.loop-left.invariant in
    let after = c.if-start-place.false in
    let long = (g.P.Pattern.lawful c.args.pattern.now c.args.bytes.now).nonempty start end c.in-Some.ensures in
    let row = c.row_from-behind.ensures in (
      omega (arith, inv.0, row.few),
      inv.1,
      λ b e ge lt m. absurd (omega (arith, row.few)),
      λ n rest. subst (CutTimes marks c.args.from) (omega arith) (inv.3 (suc (c.row_from-behind.result.0 + n)) (
        start,
        end,
        record {
          after = after;
          is = c.in-Some.ensures;
          least = λ b e ge m.
              ⊎_elim
              (λ ahead. absurd (inv.2 b e ge ahead m))
              (λ from. ⊎_elim
              (λ lt.
              let set = inv.4 b e ge from (omega (arith, c.lowest-bit.ensures.bound)) m in
              absurd (omega (arith, c.lowest-bit.ensures.below (b - at) (omega arith))))
              (λ le. le)
              (cases_lt b start))
              (cases_lt b at);
        },
        row.cut n rest,
      )),
      λ b e past ge lt m.
          let apart = λ (same : b - at ≡ c.lowest-bit.result). absurd (omega (arith, row.few)) in
          c.without-left.ensures.kept (b - at) (omega arith) apart ∙ inv.4 b e (omega arith) ge lt m,
    )

pub returns : goal.returns
returns g c =
    let law = g.P.Pattern.lawful c.args.pattern.now c.args.bytes.now in
    let inv = c.loop-at.invariant in
    simp add-zero at (inv.3 0 (λ b e ge m.
    let some = law.nonempty b e m in
    let within = law.within b e m in
    inv.2 b e ge (omega arith) m))
