use Rattle.std.proofs.Common.{◌-◌, arith}
use Rattle.std.proofs.lemmas.Nat.Bits.{bit_at_ones}
use Rattle.searchers.proofs.seen.SeenBack.nothing.Goals as goal

pub returns : goal.returns
returns c marks b e low high m = bit_at_ones 64 (e - 18446744073709551615 - 1) (omega arith)
