use Rattle.std.proofs.Common.{◌≡◌, ℕ, ◌+◌, ◌-◌, ◌<◌, ◌≤◌, ◌/◌, ◌%◌, ◌^◌, ap, ◌∙◌, arith, shr-shr, ⊎_elim}
use Rattle.std.specs.Int.{bit_at}
use Rattle.std.proofs.lemmas.Bool.{cases_lt}
use Rattle.std.proofs.lemmas.Nat.Bits.{bit_at_and, bit_at-lt, bit_at_ones, bit_at_ones_above}
use Rattle.searchers.proofs.seen.SeenBack.rest.Goals as goal

-- the lowest of 64 ones, which are left where the others are shifted out
abbrev ones : ℕ → ℕ
ones left = 18446744073709551615 / 2 ^ (64 - left)

one : (left k : ℕ) → left ≤ 64 → k < left → bit_at (ones left) k ≡ 1
one left k few lt =
    ap (λ n. n % 2) (shr-shr 18446744073709551615 (64 - left) k) ∙ bit_at_ones 64 (64 - left + k) (omega arith)

zero_past : (left k : ℕ) → left ≤ 64 → left ≤ k → bit_at (ones left) k ≡ 0
zero_past left k few past =
    ap (λ n. n % 2) (shr-shr 18446744073709551615 (64 - left) k) ∙ bit_at_ones_above 64 (64 - left + k) (omega arith)

pub returns : goal.returns
returns c =
    let seen = c.args.self.now in
    let left = c.in_ok-left.left in
    let is = c.in_ok-left.ensures in
    let few = c.if-left-gt-LANES.false in
    let some = c.if-left-eq0.false in
    record {
      low = omega arith;
      near = omega arith;
      kept = λ k lt.
          omega (arith, bit_at_and seen.bits (ones left) k, one left k few (omega arith), bit_at-lt seen.bits k);
      below = λ k set.
          ⊎_elim (λ lt. omega arith)
          (λ past. absurd (omega (arith, bit_at_and seen.bits (ones left) k, zero_past left k few past)))
          (cases_lt k left);
    }
