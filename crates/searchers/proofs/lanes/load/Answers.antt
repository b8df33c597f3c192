use Rattle.std.proofs.lemmas.Simd.{length-chunk, get_or-chunk}
use Rattle.searchers.proofs.lanes.load.Goals as goal

pub returns : goal.returns
returns c = record {
  long = length-chunk c.args.at 32 c.args.bytes.now c.requires;
  each = λ k l. get_or-chunk c.args.at 32 c.args.bytes.now k 0 l;
}
