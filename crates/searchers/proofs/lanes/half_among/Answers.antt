use Rattle.std.proofs.Common.{◌≡◌, ℕ, ◌+◌, ◌-◌, ◌%◌, true, subst, arith, ◌∙◌, ap, sym, shr-shr}
use Rattle.std.specs.Prelude.{slice_index}
use Rattle.std.proofs.lemmas.Nat.Bits.{bit_at_ones}
use Rattle.searchers.specs.bytesets.Sets.{among}
use Rattle.searchers.proofs.lanes.half_among.Goals as goal

pub returns-in_default : goal.returns-in_default
returns-in_default c k lt within has = bit_at_ones 32 k lt

-- the bits are those of the last lanes, moved down to the offset
pub returns : goal.returns
returns c k lt within has =
    let start = c.min-start.result in
    let passed : ℕ = c.args.at - start in
    let least = c.min-start.ensures in
    let last = c.in-Some.ensures in
    let here : start + (passed + k) ≡ c.args.at + k = omega arith in
    let byte = subst (λ (i : ℕ). among c.args.set.now (slice_index c.args.bytes.now i) ≡ true) (sym here) has in
    ap (λ n. n % 2) (shr-shr c.whole_among.result passed k)
    ∙ c.whole_among.ensures (passed + k) (omega arith) (omega arith) byte
