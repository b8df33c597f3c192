use Rattle.std.proofs.Common.{ap, length, ◌∙◌, arith}
use Rattle.std.specs.List.{concat}
use Rattle.bytesinner.specs.words.Few.{runs_left-few}
use Rattle.bytesinner.specs.words.Words.{runs}
use Rattle.bytesinner.proofs.words.split.Shares.new.Goals as goal

pub invariant_of-result-clause-few : goal.invariant_of-result-clause-few
invariant_of-result-clause-few g c =
    let bytes = ap (λ bs. length (runs bs)) c.as_bytes.ensures in
    let few = runs_left-few 0 (concat (g.S.AnyStr.elements c.args.text.now)) (g.S.AnyStr.few c.args.text.now) in
    omega (arith, few, c.count_words-total.ensures, bytes)

pub returns-clause-total : goal.returns-clause-total
returns-clause-total g c = c.count_words-total.ensures ∙ ap (λ bs. length (runs bs)) c.as_bytes.ensures
