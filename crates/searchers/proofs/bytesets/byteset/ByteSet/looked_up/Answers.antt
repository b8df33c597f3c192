use Rattle.std.proofs.Common.{◌≡◌, ℕ, ◌+◌, w64, sym, ap, ◌∙◌, ⊎_elim, arith, drop, slice_index, get_or-drop}
use Rattle.std.proofs.lemmas.Bool.{cases_eq, false≢true}
use Rattle.std.proofs.lemmas.List.{take_rest}
use Rattle.std.proofs.lemmas.Nat.Bits.{bit_at_set_same, bit_at_set_other}
use Rattle.std.specs.Int.{bit_at}
use Rattle.searchers.specs.bytesets.ByteSets.{has_byte}
use Rattle.searchers.proofs.bytesets.byteset.ByteSet.looked_up.Goals as goal
use Rattle.searchers.proofs.bytesets.byteset.ByteSet.looked_up.Goals.{then-contains, else-contains}

-- the rest is what is left from the offset on
rest_is : (c : goal.Joined-contains) → c.in-Some.rest.now ≡ drop c.args.at c.args.bytes.now
rest_is c = c.in-Some.ensures.lookup.0.2 ∙ take_rest c.args.bytes.now c.args.at

-- the byte that was looked up
looked_at : (c : goal.Joined-contains) (j : ℕ) → j ≡ c.loop-k.k
    → slice_index c.args.bytes.now (c.args.at + j) ≡ slice_index c.in-Some.rest.now c.loop-k.k
looked_at c j same =
    ap (λ n. slice_index c.args.bytes.now (c.args.at + n)) same
    ∙ (sym (get_or-drop c.args.at c.args.bytes.now c.loop-k.k 0) ∙ sym (ap (λ xs. slice_index xs c.loop-k.k) (rest_is c)))

pub loop-k-preserved : goal.loop-k-preserved
loop-k-preserved c j lt within has =
    let k = c.loop-k.k in
    elim c.if-contains.branch [
      | then-contains w ↦
          ap (λ n. bit_at n j) w.bits-is
          ∙ ⊎_elim
          (λ same. ap (bit_at _) same ∙ bit_at_set_same w64 c.loop-k.bits k (omega arith))
          (λ apart. bit_at_set_other w64 c.loop-k.bits k (omega arith) j apart
          ∙ c.loop-k.invariant j (omega arith) within has)
          (cases_eq j k)
      | else-contains w ↦
          ap (λ n. bit_at n j) w.bits-is
          ∙ ⊎_elim
          (λ same. absurd (false≢true (sym w.if-contains.false
          ∙ (c.contains.ensures ∙ (sym (ap (has_byte c.args.self.now) (looked_at c j same)) ∙ has)))))
          (λ apart. c.loop-k.invariant j (omega arith) within has)
          (cases_eq j k)
    ]
