use Rattle.std.proofs.Common.{false, replicate, ⊎_elim, sym, ◌∙◌}
use Rattle.std.proofs.lemmas.List.{get_or-replicate, get_or_past}
use Rattle.std.proofs.lemmas.Bool.{cases_lt, false≢true}
use Rattle.searchers.proofs.bytesets.byteset.ByteSet.new.Goals as goal

pub loop-b-init : goal.loop-b-init
loop-b-init c b =
    ⊎_elim (get_or-replicate 256 b false false) (get_or_past (replicate 256 false) b false) (cases_lt b 256)

pub invariant_of-set : goal.invariant_of-set
invariant_of-set c = record {
  few = λ le b has.
      let none =
      ⊎_elim (get_or-replicate 256 b false false) (get_or_past (replicate 256 false) b false) (cases_lt b 256) in
      absurd (false≢true (sym none ∙ has));
}
