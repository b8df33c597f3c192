use Rattle.std.proofs.Common.{◌-◌, ⊎_elim, arith}
use Rattle.std.proofs.lemmas.Bool.{cases_lt}
use Rattle.std.proofs.lemmas.Nat.Bits.{bit_at_ones, bit_at_ones_above}
use Rattle.searchers.proofs.seen.Seen.nothing.Goals as goal

pub returns : goal.returns
returns c marks = record {
  may = λ b e low high m. bit_at_ones 64 (b - 18446744073709551615) (omega arith);
  below = λ k set.
      ⊎_elim (λ lt. omega arith) (λ past. absurd (omega (arith, bit_at_ones_above 64 k past))) (cases_lt k 64);
}
