use Rattle.std.proofs.Common.{◌≡◌, ◌-◌, length, count_by, drop, ap, ◌∙◌, sym, subst, arith, [], ◌∷◌, ⊎_elim}
use Rattle.std.specs.Prelude.{◌==◌}
use Rattle.std.proofs.lemmas.List.{take_rest}
use Rattle.searchers.specs.Marks.{CutTimes}
use Rattle.searchers.specs.substring.Occurrences.{occurrence, fits}
use Rattle.searchers.proofs.substring.Times.{cut_times}
use Rattle.searchers.proofs.substring.count_byte.Goals as goal

pub returns : goal.returns
returns c =
    let b = c.args.byte in
    let bs = c.args.bytes.now in
    let from = c.args.from in
    let rest = c.in-Some.rest.now in
    let at = c.in-Some.ensures.lookup.0 in
    let is : rest ≡ drop from bs = at.2 ∙ take_rest bs from in
    let count : count_by (λ x. x == b) (drop from bs) ≡ c.times.result =
    sym (c.times.ensures ∙ ap (count_by (λ x. x == b)) is) in
    subst (CutTimes (occurrence (b ∷ []) bs) from) count (cut_times b bs (length bs - from) from (omega (arith, at.0)))

pub returns-in_default : goal.returns-in_default
returns-in_default c p e ge m =
    let fit = fits (c.args.byte ∷ []) c.args.bytes.now p e m in
    ⊎_elim (λ past. omega arith) (λ past. omega arith) c.in_default.ensures.lookup.0
