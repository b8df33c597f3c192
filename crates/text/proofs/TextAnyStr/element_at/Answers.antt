use Rattle.std.proofs.Common.{◌≡◌, ℕ, List, ◌++◌, length, drop, Some, sym, ap, ◌∙◌, rules, arith}
use lib.Utf8.{encode}
use Rattle.utf8.proofs.Rows.{utf8_had}
use Rattle.anystr.specs.Elements.{element_at}
use Rattle.text.specs.OfText.{letters, filled}
use Rattle.anystr.proofs.Begins.{begins, none-begins}
use Rattle.text.proofs.Letters.{boundary_back, begins-within, element}
use Rattle.text.proofs.TextAnyStr.element_at.Goals as goal

pub returns-then-not-is_char_boundary-clause-element : goal.returns-then-not-is_char_boundary-clause-element
returns-then-not-is_char_boundary-clause-element c =
    let bs = c.args.self.now.text.now in
    let u = utf8_had bs c.args.self.now.formed in
    sym (none-begins (letters bs) c.args.offset
    (λ k h e. let b = boundary_back bs c.args.offset u (k, e) in search rules))

pub returns-in_err-c-clause-element : goal.returns-in_err-c-clause-element
returns-in_err-c-clause-element c =
    let bs = c.args.self.now.text.now in
    let u = utf8_had bs c.args.self.now.formed in
    let none = c.in_err-c.ensures.steps.0.0 in
    let rest = ap length c.chars.ensures.rest in
    let long = c.range_from.ensures.len in
    let past = none-begins (letters bs) c.args.offset (λ k h e. let w = begins-within bs k u h in omega arith) in
    rw c.from_residual.ensures (sym past)

pub returns-clause-element : goal.returns-clause-element
returns-clause-element c =
    let bs = c.args.self.now.text.now in
    let at = c.args.offset in
    let rest : List ℕ = c.next.new.self.rest.now in
    let e : drop at bs ≡ encode c.in_ok-c.c ++ rest =
    sym c.range_from.ensures.value ∙ sym c.chars.ensures.rest ∙ c.in_ok-c.ensures.steps.0 in
    let k = element bs rest at c.in_ok-c.c (utf8_had bs c.args.self.now.formed) (search rules) e in
    sym (ap (element_at (letters bs)) (sym k.2) ∙ (begins (letters bs) k.0 (filled bs) k.1 ∙ ap Some k.3))
