use Rattle.std.proofs.Common.{◌-◌, ◌≤◌, length, take, drop, arith, length-drop, length-take}
use Rattle.utf8.proofs.Rows.{utf8_had, formed-from_utf8}
use Rattle.anystr.specs.Limits.{most_bytes}
use Rattle.text.proofs.Letters.{letters-nil, boundary_back, formed-between, part-letters}
use Rattle.text.proofs.TextAnyStr.get_bytes.Goals as goal

pub returns-in_default-clause-refused : goal.returns-in_default-clause-refused
returns-in_default-clause-refused c = λ _. letters-nil

pub range-requires-clause-start_boundary : goal.range-requires-clause-start_boundary
range-requires-clause-start_boundary c =
    let t = c.args.self.now in
    λ _. boundary_back t.text.now c.args.range.start (utf8_had _ t.formed) c.in-Ok.ensures.start

pub range-requires-clause-end_boundary : goal.range-requires-clause-end_boundary
range-requires-clause-end_boundary c =
    let t = c.args.self.now in
    boundary_back t.text.now c.args.range.end (utf8_had _ t.formed) c.in-Ok.ensures.end

pub invariant_of-result-2 : goal.invariant_of-result-2
invariant_of-result-2 c =
    let t = c.args.self.now in
    let bs = t.text.now in
    let a = c.args.range.start in
    let b = c.args.range.end in
    let f : length bs ≤ most_bytes = t.few in
    let size = length-take (b - a) (drop a bs) in
    let l : length (take (b - a) (drop a bs)) ≤ most_bytes = omega (arith, size, length-drop a bs) in
    let formed = formed-between bs a b (utf8_had bs t.formed) c.in-Ok.ensures in
    rw c.range.ensures.value (record { few = l; formed = ∣ formed-from_utf8 _ formed ∣₁ })

pub returns-clause-given : goal.returns-clause-given
returns-clause-given c =
    let t = c.args.self.now in
    let u = utf8_had t.text.now t.formed in
    λ _. rw c.range.ensures.value (part-letters t.text.now c.args.range.start c.args.range.end u c.in-Ok.ensures)
