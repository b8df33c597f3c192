use Rattle.std.proofs.Common.{◌≡◌, ◌^◌, length, map, ap, sym, subst, ◌∙◌, arith}
use Rattle.std.proofs.lemmas.List.{length-map}
use Rattle.std.proofs.lemmas.Simd.{mask_l-lt}
use Rattle.std.specs.Int.{bit_at}
use Rattle.memchr.proofs.lemmas.LaneLemmas.{bit_at-mask_l, top_bitmask, is_set}
use Rattle.searchers.proofs.lanes.top_bits.Goals as goal

pub overflow_cast-result : goal.overflow_cast-result
overflow_cast-result c =
    let v = c.args.lanes in
    let e = top_bitmask v 32 c.fits-lanes.0 (omega arith) in
    let l = mask_l-lt (map is_set v) in
    let power : 2 ^ length (map is_set v) ≡ 4294967296 = ap (λ n. 2 ^ n) (length-map v is_set ∙ c.fits-lanes.0) in
    record { fits = omega arith }

pub returns : goal.returns
returns c k top =
    let v = c.args.lanes in
    subst (λ m. bit_at m k ≡ 1) (sym (top_bitmask v 32 c.fits-lanes.0 (omega arith))) ((bit_at-mask_l v k).1 top)
