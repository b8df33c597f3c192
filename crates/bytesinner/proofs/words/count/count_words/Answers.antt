use Rattle.std.proofs.Common.{◌≡◌, true, length, ap, ◌∙◌, arith, rules}
use Rattle.bytesinner.specs.words.Starts.{starts}
use Rattle.bytesinner.proofs.words.Starts.{runs-starts, starts-few, starts-append}
use Rattle.bytesinner.proofs.words.count.count_words.Goals as goal

pub overflow_add-total : goal.overflow_add-total
overflow_add-total c =
    let p = c.loop-rest.behind in
    let parts = c.split_at.result in
    let split = ap (starts p) c.split_at.ensures.by_index.0 ∙ starts-append p parts.0.now parts.1.now in
    let inv = c.loop-rest.invariant in
    let words = c.starts_in-words.ensures.words in
    let long = c.type_inv.bytes in
    omega (arith, starts-few true c.args.bytes.now, split)

pub loop-rest-preserved : goal.loop-rest-preserved
loop-rest-preserved c =
    let p = c.loop-rest.behind in
    let parts = c.split_at.result in
    let split = ap (starts p) c.split_at.ensures.by_index.0 ∙ starts-append p parts.0.now parts.1.now in
    let inv = c.loop-rest.invariant in
    let words = c.starts_in-words.ensures.words in
    omega (arith, split, ap (λ q. starts q parts.1.now) c.starts_in-words.ensures.last)

pub returns : goal.returns
returns c =
    let none = starts-few c.loop-rest.behind c.loop-rest.rest.now in
    let inv = c.loop-rest.invariant in
    let empty : length c.loop-rest.rest.now ≡ 0 = search rules in
    omega (arith, runs-starts c.args.bytes.now, none, empty)
