use Rattle.std.proofs.Common.{length, sym, ap, ◌∙◌, arith, eqb-true}
use Rattle.std.specs.List.{concat}
use Rattle.std.proofs.lemmas.List.{nil_from_length}
use Rattle.anystr.specs.Refusals.{coded}
use Rattle.anystr.specs.Texts.{bytes_of}
use Rattle.bytesinner.specs.replaces.Replaces.{spread_text}
use Rattle.bytesinner.proofs.replaces.Filling.{fills}
use Rattle.bytesinner.proofs.replaces.Law.{at-elements}
use Rattle.bytesinner.proofs.replaces.Spreading.{spread_text-empty}
use Rattle.bytesinner.proofs.replaces.Replacement.replace.Goals as goal

pub returns-else-not-is_empty-2-clause-fills : goal.returns-else-not-is_empty-2-clause-fills
returns-else-not-is_empty-2-clause-fills g c =
    let r = c.args.self.now in
    let es = g.S.AnyStr.elements r.text in
    let from = bytes_of g.S.AnyStr r.from in
    let to = bytes_of g.S.AnyStr r.to in
    let none = eqb-true (length from) 0 (sym c.if-not-is_empty.ensures) in
    let nothing = nil_from_length to (eqb-true (length to) 0 (sym c.if-not-is_empty-2.ensures)) in
    let empty = ap (λ t. spread_text t r.bound 0 es) nothing ∙ spread_text-empty r.bound es 0 in
    fills _ (concat es) _ _ (coded c.push_str.result) (at-elements es from to r.bound none ∙ empty)
    (omega (arith, g.S.AnyStr.few r.text)) c.push_str.ensures.fills
