use Rattle.anystr.specs.OfBytes.{singles}
use Rattle.searchers.specs.bytesets.Sets.{single_bytes}
use Rattle.searchers.specs.bytesets.ByteSets.{has_byte}
use Rattle.std.specs.List.{concat}
use Rattle.searchers.proofs.Found.{found_on}
use Rattle.searchers.proofs.bytesets.OnBytes.{bytes_on}
use Rattle.searchers.proofs.bytesets.byteset.ByteSetSearcherBytes.resume.Goals as goal

pub returns : goal.returns
returns c of =
    let bs = c.args.text.now.bytes.now in
    let marks = single_bytes (has_byte c.args.self.now) (concat (singles bs)) in
    let found = rw c.as_bytes.ensures at c.next_in.ensures in
    let value = found.value of in
    let cut = found_on (singles bs) marks c.args.from c.next_in.result (bytes_on bs (has_byte c.args.self.now)) value in
    record { value = value; cut = cut; seen = found.seen of }
