use Rattle.anystr.specs.Texts.{bytes_of}
use Rattle.searchers.specs.substring.Substrings.{needle_of}
use Rattle.searchers.proofs.substring.OnText.{found_on}
use Rattle.searchers.proofs.substring.SubstringSearcher.resume.Goals as goal

pub returns : goal.returns
returns g c of =
    let es = g.S.AnyStr.elements c.args.text.now in
    let needle = needle_of c.args.self.now in
    let found = rw (c.as_bytes.ensures, c.as_bytes-2.ensures) at c.next_occurrence.ensures in
    let value = found.value of in
    let whole = g.S.AnyStr.whole c.args.text.now needle in
    record {
      value = value;
      cut = found_on es (bytes_of g.S.AnyStr needle) whole c.args.from c.next_occurrence.result value;
      seen = found.seen of;
    }
