use Rattle.std.proofs.Common.{length, ap, ◌∙◌, arith}
use Rattle.anystr.specs.Bytes.{byte_list}
use Rattle.anystr.specs.OfBytes.{concat-singles}
use Rattle.bytesinner.proofs.finds.Cutting.{count-empty, count-part}
use Rattle.bytesinner.proofs.finds.Meant.{some, none}
use Rattle.bytesinner.proofs.finds.stretch.Stretch.times.Goals as goal

pub overflow_add-result : goal.overflow_add-result
overflow_add-result c =
    let part = c.in-Some.part in
    omega (arith, c.bytes_len.ensures, ap length (concat-singles (byte_list part)), part.few)

pub returns-then-is_empty : goal.returns-then-is_empty
returns-then-is_empty c =
    let s = c.args.self.now in
    let part = c.in-Some.ensures in
    let empty = none (byte_list c.args.needle) c.if-is_empty.ensures in
    let count = count-empty (byte_list s.text) _ s.range.start s.range.end part.order empty in
    omega (arith, c.bytes_len.ensures, ap length (concat-singles (byte_list c.in-Some.part) ∙ part.bytes), count)

pub returns : goal.returns
returns c =
    let s = c.args.self.now in
    let part = c.in-Some.ensures in
    let filled = some (byte_list c.args.needle) c.if-is_empty.ensures in
    let cut = simp concat-singles at (rw (c.new.ensures, part.bytes) at c.count_marks.ensures) in
    count-part (byte_list s.text) _ s.range.start s.range.end c.count_marks.result part.order filled cut
