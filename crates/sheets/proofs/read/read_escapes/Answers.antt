use Rattle.std.proofs.Common.{ℕ, inr}
use Rattle.std.proofs.lemmas.List.{take_rest}
use Rattle.std.proofs.lemmas.Result.{err_from_is_err_and}
use Rattle.sheets.proofs.Reading.{read-more, read-wrong, read-all}
use Rattle.sheets.proofs.read.read_escapes.Goals as goal

pub loop-first-preserved : goal.loop-first-preserved
loop-first-preserved c =
    let l = c.loop-first in
    let e : ℕ × ℕ = (c.in_ok-byte.byte, c.in_ok-byte.taken) in
    let left = take_rest c.in-Some.after.now c.in_ok-byte.taken in
    let more = read-more c.args.word.now l.bytes.items l.rest.now l.invariant c.in-Some.first.now c.in-Some.after.now
    c.in-Some.ensures.cases.0 e c.in_ok-byte.ensures.value in
    cc (left, more, c.in_ok-push.ensures.items)

pub returns-in_err-byte-clause-wrong : goal.returns-in_err-byte-clause-wrong
returns-in_err-byte-clause-wrong c =
    let l = c.loop-first in
    let p = err_from_is_err_and c.from_residual-in_err-byte.result c.from_residual-in_err-byte.ensures.1 in
    let wrong = read-wrong c.args.word.now l.bytes.items l.rest.now l.invariant c.in-Some.first.now c.in-Some.after.now
    c.in-Some.ensures.cases.0 c.in_err-byte.field-0.0 c.in_err-byte.ensures.value in
    rw (p.1, p.2) (inr wrong)

pub returns-clause-value : goal.returns-clause-value
returns-clause-value c =
    let l = c.loop-first in
    read-all c.args.word.now l.bytes.items l.rest.now l.invariant c.in_default.ensures.cases
