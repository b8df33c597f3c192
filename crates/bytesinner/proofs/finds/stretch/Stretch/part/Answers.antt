use Rattle.std.proofs.Common.{sym, ◌∙◌}
use Rattle.anystr.specs.Bytes.{byte_list}
use Rattle.anystr.specs.OfBytes.{concat-singles}
use Rattle.bytesinner.proofs.finds.Parts.{got_part}
use Rattle.bytesinner.proofs.finds.stretch.Stretch.part.Goals as goal

pub returns-clause-bytes : goal.returns-clause-bytes
returns-clause-bytes c =
    let s = c.args.self.now in
    let ps = byte_list c.get_bytes.result in
    sym (concat-singles ps)
    ∙ got_part (byte_list s.text) ps s.range.start s.range.end c.if-self.false s.within c.get_bytes.ensures.given
