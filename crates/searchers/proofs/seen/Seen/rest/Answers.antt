use Rattle.std.proofs.Common.{◌≡◌, ◌+◌, ◌-◌, ◌%◌, ap, ◌∙◌, arith, shr-shr}
use Rattle.std.specs.Int.{bit_at}
use Rattle.searchers.proofs.seen.Seen.rest.Goals as goal

pub returns : goal.returns
returns c =
    let seen = c.args.self.now in
    let passed = c.in_ok-passed.passed in
    let is = c.in_ok-passed.ensures in
    let same : passed ≡ c.args.from - seen.at = omega arith in
    record {
      low = omega arith;
      near = omega arith;
      moved = λ k. ap (λ n. n % 2) (shr-shr seen.bits passed k) ∙ ap (λ p. bit_at seen.bits (p + k)) same;
    }
