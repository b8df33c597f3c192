use Rattle.std.proofs.Common.{arith}
use Rattle.anystr.specs.Texts.{bytes_of}
use Rattle.searchers.specs.bytesets.AsciiSets.{has_ascii}
use Rattle.sheets.proofs.Counting.{cut-count}
use Rattle.sheets.proofs.counts.count_in.Goals as goal

pub returns : goal.returns
returns g c =
    cut-count (has_ascii c.args.set.now) (bytes_of g.S.AnyStr c.args.text.now) _ 0 (omega arith) c.count_marks.ensures
