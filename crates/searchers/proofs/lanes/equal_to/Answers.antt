use Rattle.std.proofs.Common.{cond, eqb, get_or, replicate, sym, subst, w8}
use Rattle.memchr.proofs.lemmas.LaneLemmas.{HasLanes-select}
use Rattle.memchr.specs.Lanes.{HasLanes}
use Rattle.std.proofs.lemmas.Simd.{tops_compared}
use Rattle.std.specs.Simd.Lanes.{sel_l}
use Rattle.searchers.proofs.lanes.equal_to.Goals as goal

pub returns : goal.returns
returns c =
    let v = c.args.lanes in
    let b = c.args.byte in
    subst (λ ms. HasLanes (sel_l ms (replicate 32 255) (replicate 32 0)) (λ k. cond (eqb (get_or v k 0) b) 255 0))
    (sym (tops_compared w8 eqb v (replicate 32 b))) (HasLanes-select eqb v b 255 0 c.fits-lanes.0)
