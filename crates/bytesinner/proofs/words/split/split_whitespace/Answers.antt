use Rattle.std.proofs.Common.{length, Ok, rules}
use Rattle.std.specs.List.{concat}
use Rattle.bytesinner.proofs.words.Bounded.{wanted, begun, words_length, words_put, words_put_cut}
use Rattle.bytesinner.proofs.words.Opened.{opened-left}
use Rattle.bytesinner.proofs.words.OnText.{words-cut, told}
use Rattle.bytesinner.proofs.words.split.split_whitespace.Goals as goal

pub returns-in_err-n : goal.returns-in_err-n
returns-in_err-n g c =
    let es = g.S.AnyStr.elements c.args.text.now in
    let w = wanted c.new-shares.ensures.total c.ranges.maxsplit c.new-shares.ensures.alone c.places.ensures in
    let l = words_length w (length (concat es)) in
    told es _ (words-cut es c.args.maxsplit) c.args.places.now _ _ (search rules)

pub returns-then-shares : goal.returns-then-shares
returns-then-shares g c =
    let es = g.S.AnyStr.elements c.args.text.now in
    let b = begun c.new-shares.ensures.total c.ranges.maxsplit c.new-shares.ensures.alone c.places.ensures
    c.in_ok-n.ensures (opened-left c.new.result c.new.ensures) c.fill.auto.places c.fill.ensures.written in
    told es _ (words-cut es c.args.maxsplit) c.args.places.now _ (Ok c.in_ok-n.n)
    (words_put_cut b.shares b.room c.if-shares.true _ _ c.bytes_len.ensures b.filled)

pub returns-else-shares : goal.returns-else-shares
returns-else-shares g c =
    let es = g.S.AnyStr.elements c.args.text.now in
    let b = begun c.new-shares.ensures.total c.ranges.maxsplit c.new-shares.ensures.alone c.places.ensures
    c.in_ok-n.ensures (opened-left c.new.result c.new.ensures) c.fill.auto.places c.fill.ensures.written in
    told es _ (words-cut es c.args.maxsplit) c.args.places.now _ (Ok c.in_ok-n.n)
    (words_put b.shares b.room _ c.if-shares.false b.filled)
