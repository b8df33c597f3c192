use Rattle.std.specs.List.{concat}
use Rattle.anystr.specs.OfBytes.{singles}
use Rattle.searchers.specs.bytesets.ByteSets.{has_byte}
use Rattle.searchers.specs.bytesets.Sets.{single_bytes}
use Rattle.searchers.proofs.Found.{found_on}
use Rattle.searchers.proofs.bytesets.OnBytes.{bytes_on}
use Rattle.searchers.proofs.bytesets.byteset.ByteSetSearcherBytes.find.Goals as goal

pub returns-clause-cut : goal.returns-clause-cut
returns-clause-cut c =
    let bs = c.args.text.now.bytes.now in
    let marks = single_bytes (has_byte c.args.self.now) (concat (singles bs)) in
    let found = rw c.as_bytes.ensures at c.first_mark.ensures in
    found_on (singles bs) marks c.args.from c.first_mark.result (bytes_on bs (has_byte c.args.self.now)) found
