use Rattle.std.proofs.Common.{◌≡◌, IsTrue, subst, arith}
use Rattle.searchers.specs.bytesets.Sets.{single_bytes, single_bytes-is}
use Rattle.bytesinner.specs.words.Words.{is_space}
use Rattle.bytesinner.proofs.words.runs.SpacesPattern.mark_to.Goals as goal

pub returns-in_err-mark_from : goal.returns-in_err-mark_from
returns-in_err-mark_from c =
    let marks = single_bytes is_space c.args.bytes.now in
    rw c.from_residual-in_err-mark_from.ensures (λ a m.
    let s = single_bytes-is is_space c.args.bytes.now a c.args.end m in
    let e = s.end in
    let start = c.in_ok-start.ensures in
    let at : a ≡ c.in_ok-start.start = omega arith in
    c.in_err-mark_from.ensures c.args.end (subst (λ i. IsTrue (marks i c.args.end)) at m))
