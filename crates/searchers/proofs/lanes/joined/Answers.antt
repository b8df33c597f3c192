use Rattle.std.proofs.Common.{◌≡◌, ℕ, ◌+◌, ◌*◌, ◌%◌, ◌^◌, bit_or, ap, ◌∙◌, arith}
use Rattle.std.specs.Int.{bit_at}
use Rattle.std.proofs.lemmas.Nat.Bits.{bit_at_or, bit_at-lt, bit_at_cat_high}
use Rattle.searchers.proofs.lanes.joined.Goals as goal

-- a bit of either half is one of both
pub returns : goal.returns
returns c =
    let back = c.args.back in
    let high : ℕ = back * 4294967296 % 18446744073709551616 in record {
      front = λ k lt set. omega (arith, bit_at_or c.args.front high k, bit_at-lt (bit_or c.args.front high) k);
      back = λ k far set.
          let moved : high ≡ back * 2 ^ 32 + 0 = let small = c.ranges.back.fits in omega arith in
          let there = ap (λ n. bit_at n k) moved ∙ bit_at_cat_high back 32 0 k (omega arith) far in
          omega (arith, bit_at_or c.args.front high k, bit_at-lt (bit_or c.args.front high) k);
    }
