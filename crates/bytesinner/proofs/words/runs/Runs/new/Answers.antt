use Rattle.std.proofs.Common.{refl}
use Rattle.std.specs.List.{concat}
use Rattle.searchers.specs.bytesets.Sets.{single_bytes}
use Rattle.bytesinner.specs.words.Words.{is_space}
use Rattle.bytesinner.proofs.words.runs.Runs.new.Goals as goal

pub returns : goal.returns
returns g c = record { text = refl; place = refl }

pub invariant_of-result : goal.invariant_of-result
invariant_of-result g c =
    record { looked = c.nothing.ensures (single_bytes is_space (concat (g.S.AnyStr.elements c.args.text))) }
