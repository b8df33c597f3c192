use Rattle.std.proofs.Common.{◌≡◌, ◌<◌, ◌≤◌, [], ◌∷◌, length, slice_index, Some, sym, ap, ◌∙◌, arith, length-take}
use Rattle.std.proofs.lemmas.List.{length-take-le}
use Rattle.std.proofs.lemmas.Grind.{get_or_default_zero}
use Rattle.anystr.specs.Elements.{element_at, offset}
use Rattle.anystr.specs.OfBytes.{singles, filled, offset-singles}
use Rattle.anystr.proofs.Singles.{length-singles, get_or-singles}
use Rattle.anystr.proofs.Begins.{begins, none-begins}
use Rattle.anystr.proofs.bytes.BytesAnyStr.element_at.Goals as goal

pub returns-in_err-byte-clause-element : goal.returns-in_err-byte-clause-element
returns-in_err-byte-clause-element c =
    let bs = c.args.self.now.bytes.now in
    let past : length bs ≤ c.args.offset = c.in_err-byte.ensures.lookup.3 in
    let l = length-singles bs in
    let none = none-begins (singles bs) c.args.offset (λ k h e. omega (arith, offset-singles k bs, length-take k bs)) in
    rw c.from_residual.ensures (sym none)

pub returns-clause-element : goal.returns-clause-element
returns-clause-element c =
    let bs = c.args.self.now.bytes.now in
    let at = c.args.offset in
    let found = c.in_ok-byte.ensures.lookup in
    let within : at < length bs = found.3.0 in
    let is : c.in_ok-byte.byte.now ≡ slice_index bs at = found.1 ∙ get_or_default_zero bs at _ within in
    let l = length-singles bs in
    let here : offset (singles bs) at ≡ at = offset-singles at bs ∙ length-take-le at bs (omega arith) in
    let some = begins (singles bs) at (filled bs) (omega arith) ∙ ap Some (get_or-singles bs at within) in
    ap (λ b. Some (b ∷ [])) is ∙ sym (ap (element_at (singles bs)) (sym here) ∙ some)
