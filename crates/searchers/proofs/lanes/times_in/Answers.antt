use Rattle.searchers.proofs.Compared.{compared-ones, compared-few}
use Rattle.searchers.proofs.lanes.times_in.Goals as goal

pub returns : goal.returns
returns c = record {
  value = compared-ones c.args.bytes.now c.args.at c.args.byte c.requires;
  few = compared-few c.args.bytes.now c.args.at c.args.byte c.requires;
}
