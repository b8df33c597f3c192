use Rattle.std.proofs.Common.{◌+◌, get_or, sym, ◌∙◌, ap, cond, ⊎_elim, arith}
use Rattle.std.specs.Prelude.{◌==◌}
use Rattle.std.proofs.lemmas.Bool.{or_cases, eqb-true, eq-eqb}
use Rattle.std.proofs.lemmas.List.Folds.{list_any_more}
use Rattle.memchr.proofs.lemmas.BitLemmas.{or_ge_left, or_ge_right}
use Rattle.searchers.proofs.lanes.whole_among.Goals as goal

pub loop-byte-preserved : goal.loop-byte-preserved
loop-byte-preserved c k lt h =
    let b = get_or c.args.bytes.now (c.args.at + k) 0 in
    let before = get_or c.loop-byte.hits k 0 in
    let here = get_or c.equal_to.result k 0 in
    let joined = c.either-hits.ensures.each k lt in
    ⊎_elim
    (λ seen. omega (arith, or_ge_left before here, c.loop-byte.invariant k lt seen))
    (λ is.
    let same = eq-eqb _ _ (c.load-lanes.ensures.each k lt ∙ sym (eqb-true _ _ is)) in
    let all = c.equal_to.ensures.each k lt ∙ ap (λ t. cond t 255 0) same in
    omega (arith, or_ge_right before here))
    (or_cases _ _ (sym (list_any_more (λ x. x == b) c.args.set.now c.loop-byte.byte-index 0 c.loop-byte-test.true) ∙ h))
