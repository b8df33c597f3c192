use Rattle.anystr.specs.Texts.{bytes_of}
use Rattle.searchers.specs.substring.Occurrences.{occurrence}
use Rattle.searchers.specs.substring.Substrings.{needle_of}
use Rattle.searchers.proofs.substring.OnText.{found_on}
use Rattle.searchers.proofs.substring.SubstringSearcher.find.Goals as goal

pub returns-clause-value : goal.returns-clause-value
returns-clause-value g c =
    let n = c.as_bytes-needle.result.now in
    let bs = c.as_bytes.result.now in
    let of = c.nothing.ensures (occurrence n bs) in
    rw (c.as_bytes-needle.ensures, c.as_bytes.ensures) at (c.next_occurrence.ensures.value of)

pub returns-clause-cut : goal.returns-clause-cut
returns-clause-cut g c =
    let es = g.S.AnyStr.elements c.args.text.now in
    let needle = needle_of c.args.self.now in
    let whole = g.S.AnyStr.whole c.args.text.now needle in
    found_on es (bytes_of g.S.AnyStr needle) whole c.args.from c.next_occurrence.result
    (returns-clause-value g c)
