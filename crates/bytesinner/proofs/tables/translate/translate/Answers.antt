use Rattle.std.proofs.Common.{ℕ, ◌<◌, get_or, sym, ◌∙◌, rules}
use Rattle.std.proofs.lemmas.Bool.{eqb-true}
use Rattle.std.proofs.lemmas.List.{nil_from_length, take_all}
use Rattle.anystr.specs.Bytes.{byte_list}
use Rattle.anystr.specs.OfBytes.{concat-singles}
use Rattle.bytesinner.specs.tables.Tables.{byte_values}
use Rattle.bytesinner.proofs.tables.Translated.{images-kept, images-all, translated}
use Rattle.bytesinner.proofs.tables.translate.translate.Goals as goal

pub returns-then-is_empty : goal.returns-then-is_empty
returns-then-is_empty g c =
    let options = c.args.options in
    let text = byte_list c.args.text.now in
    let bytes = c.as_bytes-bytes.result.now in
    let meant = c.in_ok-table.ensures in
    let shown = c.as_bytes-bytes.ensures ∙ concat-singles text in
    let fit : (i : ℕ) → get_or bytes i 0 < byte_values = λ i. search rules in
    let none = nil_from_length c.in_ok-table.delete.now (eqb-true _ _ (sym c.is_empty.ensures ∙ c.if-is_empty.true)) in
    let images = images-all options _ _ bytes text meant fit shown none in
    let push = c.push_all.ensures in
    let done = translated g.T.AnyStrContainer.contents options text _ _ _ _ meant.long images push.fills in
    record { fills = done.fills; same_loan = push.same_loan; place = done.place; gone = done.gone }

pub returns : goal.returns
returns g c =
    let options = c.args.options in
    let text = byte_list c.args.text.now in
    let bytes = c.as_bytes-bytes.result.now in
    let meant = c.in_ok-table.ensures in
    let shown = c.as_bytes-bytes.ensures ∙ concat-singles text in
    let fit : (i : ℕ) → get_or bytes i 0 < byte_values = λ i. search rules in
    let loop = c.loop-d in
    let delete = c.in_ok-table.delete.now in
    let made = rw (take_all loop.d-index delete c.loop-d-test.false) at loop.invariant in
    let images = images-kept options _ delete bytes text meant fit shown _ made loop.entries.small in
    let push = c.push_kept.ensures in
    let done = translated g.T.AnyStrContainer.contents options text _ _ _ _ meant.long images push.fills in
    record { fills = done.fills; same_loan = push.same_loan; place = done.place; gone = done.gone }
