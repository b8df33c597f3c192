use Rattle.std.proofs.Common.{◌-◌, arith}
use Rattle.std.proofs.lemmas.Nat.Bits.{bit_at_ones}
use Rattle.searchers.proofs.scan.Pattern.begins.Goals as goal

pub returns : goal.returns
returns g c b e low high is = bit_at_ones 64 (b - c.args.at) (omega arith)
