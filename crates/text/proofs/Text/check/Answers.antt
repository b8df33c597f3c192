use Rattle.anystr.proofs.Mapped.{mapped}
use Rattle.text.specs.Checks.{ChecksText}
use Rattle.utf8.proofs.Rows.{utf8_from_formed, formed-from_utf8}
use Rattle.text.proofs.Text.check.Goals as goal

pub returns-clause-table : goal.returns-clause-table
returns-clause-table c bs = (utf8_from_formed bs, formed-from_utf8 bs)

pub returns-clause-answer : goal.returns-clause-answer
returns-clause-answer c =
    let told = c.try_from.ensures.0 in
    mapped (ChecksText c.args.bytes.now) _ _ _ c.try_from.result c.map.result c.map.ensures.cases told
    (λ t u p. p) (λ e p. p)
