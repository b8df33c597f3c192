use Rattle.std.proofs.Common.{sym, ◌∙◌}
use Rattle.utf8.proofs.Rows.{utf8_had}
use Rattle.text.specs.OfText.{concat-letters}
use Rattle.text.proofs.TextAnyStr.as_bytes.Goals as goal

pub returns : goal.returns
returns c = let t = c.args.self.now in c.as_bytes.ensures.value ∙ sym (concat-letters t.text.now (utf8_had _ t.formed))
