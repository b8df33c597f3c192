use Rattle.std.proofs.Common.{◌≡◌, ◌<◌, length, get_or, ap, sym, ◌∙◌, refl, arith, rules}
use Rattle.std.proofs.lemmas.Result.{err_from_is_err_and, MatchResult-weaker}
use Rattle.anystr.specs.Elements.{Cut}
use Rattle.anystr.specs.Texts.{bytes_of}
use Rattle.anystr.specs.declared.refusal.Refusal.TheVariants.{BadPlace}
use Rattle.bytesinner.specs.joins.Joins.{unless_bad}
use Rattle.bytesinner.specs.joins.Parts.{joined_parts}
use Rattle.bytesinner.proofs.joins.Checks.{passed, refused}
use Rattle.bytesinner.proofs.joins.Joining.{nowhere, good_more, bad-here, bare_more, join-sum, join_fits}
use Rattle.bytesinner.proofs.joins.Parts.measure.Goals as goal

pub returns-in_err-map_err : goal.returns-in_err-map_err
returns-in_err-map_err g c =
    let parts = c.args.self.now in
    let es = g.S.AnyStr.elements parts.text in
    let i = c.loop-index.index-counter in
    let place = get_or parts.places.now i nowhere in
    let error = c.in_err-map_err.field-0.0 in
    let exit = err_from_is_err_and c.from_residual.result c.from_residual.ensures.1 in
    let bad =
    refused (Cut es place.start place.end) (error ≡ BadPlace i) _ c.check_bytes.result error c.check_bytes.ensures
    (MatchResult-weaker c.check_bytes.result c.in_err-map_err.ensures.cases (λ x h. h) (λ d h. search rules)) in
    let first = sym (bad-here es parts.places.now i (omega arith) bad.0) ∙ c.loop-index.invariant.good in
    rw (exit.1, exit.2, bad.1) (ap (λ b. unless_bad b (length (joined_parts parts))) first)

pub loop-index-init : goal.loop-index-init
loop-index-init g c =
    let parts = c.args.self.now in
    let text = bytes_of g.S.AnyStr parts.text in
    let sum = join-sum (bytes_of g.S.AnyStr parts.sep) text parts.places.now in
    record { good = refl; counted = rw (c.saturating_sub-gaps.ensures, c.bytes_len.ensures) (sym sum) }

pub overflow_add-sum : goal.overflow_add-sum
overflow_add-sum g c =
    let parts = c.args.self.now in
    let s = g.S.AnyStr in
    let i = c.loop-index.index-counter in
    let cut = passed _ _ c.check_bytes.result c.in_ok-map_err.ensures.variant c.check_bytes.ensures in
    let more = bare_more (s.elements parts.text) parts.places.now i (omega arith) cut in
    let short = s.few parts.sep in
    let fits = join_fits (bytes_of s parts.sep) (bytes_of s parts.text) _ short (s.few parts.text) parts.few in
    omega (arith, c.loop-index.invariant.counted, more, fits)

pub loop-index-preserved : goal.loop-index-preserved
loop-index-preserved g c =
    let parts = c.args.self.now in
    let es = g.S.AnyStr.elements parts.text in
    let i = c.loop-index.index-counter in
    let lt : i < length parts.places.now = omega arith in
    let inv = c.loop-index.invariant in
    let cut = passed _ _ c.check_bytes.result c.in_ok-map_err.ensures.variant c.check_bytes.ensures in
    let more = bare_more es parts.places.now i lt cut in
    record { good = good_more es parts.places.now i lt cut ∙ inv.good; counted = omega (arith, inv.counted, more) }
