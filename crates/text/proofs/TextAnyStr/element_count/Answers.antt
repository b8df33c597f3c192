use Rattle.std.proofs.Common.{◌≡◌, length, sym, ◌∙◌, rules}
use Rattle.std.proofs.lemmas.Str.{chars_from_encodes}
use Rattle.std.specs.Str.{chars}
use Rattle.text.proofs.Letters.{length-letters}
use Rattle.text.proofs.TextAnyStr.element_count.Goals as goal

pub returns : goal.returns
returns c =
    let bs = c.args.self.now.text.now in
    let n : c.count.result ≡ length (chars bs) = search (rules, chars_from_encodes) in
    n ∙ sym (length-letters bs)
