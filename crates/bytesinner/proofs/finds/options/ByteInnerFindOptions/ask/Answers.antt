use Rattle.std.proofs.Common.{refl}
use Rattle.anystr.specs.Bytes.{byte_list}
use Rattle.bytesinner.specs.finds.Asked.{needle_bytes}
use Rattle.bytesinner.proofs.finds.Meant.{meant, offset-within}
use Rattle.bytesinner.proofs.finds.options.ByteInnerFindOptions.ask.Goals as goal

pub invariant_of-stretch : goal.invariant_of-stretch
invariant_of-stretch g c =
    let bs = byte_list c.args.text.now in
    record { within = offset-within c.args.self bs _ _ _ _ c.in_ok-needle.ensures c.bytes_len.ensures }

pub returns-clause-answer : goal.returns-clause-answer
returns-clause-answer g c =
    let needle = needle_bytes c.in_ok-needle.needle in
    let made = byte_list c.new.result in
    let is = meant c.args.self c.args.text.now _ needle c.as_bytes.result.now made c.bytes_len.result refl
    c.in_ok-needle.ensures c.bytes_len.ensures c.as_bytes.ensures c.new.ensures.given in
    (_, _, is, c.search.ensures)
