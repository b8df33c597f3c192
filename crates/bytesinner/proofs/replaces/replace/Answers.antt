use Rattle.std.proofs.Common.{◌≡◌, pos, ap, ◌∙◌, arith, w64, SFits, rules}
use Rattle.std.specs.List.{concat}
use Rattle.std.proofs.lemmas.Int.{ints}
use Rattle.anystr.specs.Refusals.{coded}
use Rattle.anystr.specs.Texts.{bytes_of}
use Rattle.bytesinner.specs.replaces.Replaces.{replaced_text}
use Rattle.bytesinner.proofs.replaces.Filling.{fills, bound-zero}
use Rattle.bytesinner.proofs.replaces.Law.{none-replaced_text, replace-law}
use Rattle.bytesinner.proofs.replaces.replace.Goals as goal

pub returns-in-Present-clause-fills : goal.returns-in-Present-clause-fills
returns-in-Present-clause-fills g c =
    let text = c.args.text.now in
    let es = g.S.AnyStr.elements text in
    let from = bytes_of g.S.AnyStr c.args.from.now in
    let to = bytes_of g.S.AnyStr c.args.to.now in
    let count = c.in-Present.count in
    let f : SFits w64 count = search rules in
    let zero : count ≡ pos 0 = omega (arith, ints) in
    let same = bound-zero c.args.maxcount count c.in-Present.is zero in
    fills _ (concat es) _ _ (coded c.push_str.result)
    (ap (replaced_text es from to) same ∙ none-replaced_text es from to)
    (omega (arith, g.S.AnyStr.few text)) c.push_str.ensures.fills

pub returns-in-Present-clause-law : goal.returns-in-Present-clause-law
returns-in-Present-clause-law g c = replace-law _ _ _ _ (g.S.AnyStr.filled c.args.text.now)

pub returns-clause-law : goal.returns-clause-law
returns-clause-law g c = replace-law _ _ _ _ (g.S.AnyStr.filled c.args.text.now)
