use Rattle.std.proofs.Common.{arith}
use Rattle.anystr.specs.Bytes.{byte_list}
use Rattle.anystr.specs.OfBytes.{concat-singles}
use Rattle.bytesinner.proofs.finds.Meant.{some, none}
use Rattle.bytesinner.proofs.finds.Standing.{empty-first, found, not_found}
use Rattle.bytesinner.proofs.finds.stretch.Stretch.first_place.Goals as goal

pub returns-then-is_empty : goal.returns-then-is_empty
returns-then-is_empty c =
    let s = c.args.self.now in
    let empty = none (byte_list c.args.needle) c.if-is_empty.ensures in
    empty-first (byte_list s.text) _ s.range.end s.within s.range.start c.in_ok-part.ensures.order empty

pub returns-in_err-mark : goal.returns-in_err-mark
returns-in_err-mark c =
    let s = c.args.self.now in
    let part = c.in_ok-part.ensures in
    let filled = some (byte_list c.args.needle) c.if-is_empty.ensures in
    let no_mark = simp concat-singles at (rw (c.new.ensures, part.bytes) at c.in_err-mark.ensures.value) in
    rw c.from_residual-in_err-mark.ensures
    (not_found (byte_list s.text) _ s.range.end s.within s.range.start part.order filled no_mark)

pub returns : goal.returns
returns c =
    let s = c.args.self.now in
    let part = c.in_ok-part.ensures in
    let least = simp concat-singles at (rw (c.new.ensures, part.bytes) at c.in_ok-mark.ensures.value) in
    found (byte_list s.text) (byte_list c.args.needle) s.range.end s.within s.range.start part.order _ _ least

pub overflow_add-result : goal.overflow_add-result
overflow_add-result c =
    let place = (returns c).0 in
    omega (arith, place.ahead, c.args.self.now.within, c.args.self.now.text.few)
