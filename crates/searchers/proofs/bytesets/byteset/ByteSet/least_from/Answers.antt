use Rattle.std.proofs.Common.{◌≡◌, Bool, false, List, length, ⊎_elim, arith, rules}
use Rattle.std.proofs.lemmas.List.{get_or_past}
use Rattle.std.proofs.lemmas.Bool.{both_ways, cases_lt}
use Rattle.searchers.specs.bytesets.Sets.{AllBelow, member}
use Rattle.searchers.proofs.bytesets.byteset.ByteSet.least_from.Goals as goal

-- a byte of a table stands within it
member_within : (has : List Bool) → AllBelow (member has) (length has)
member_within has b is =
    ⊎_elim (λ lt. lt) (λ past. absurd (both_ways _ (get_or_past has b false past) is)) (cases_lt b (length has))

pub returns : goal.returns
returns c b is =
    let has = c.args.self.now.has in
    let all : length has ≡ 256 = search rules in
    let within = member_within has b is in
    ⊎_elim (λ lt. lt) (λ ge. absurd (c.loop-byte.invariant b ge (omega arith) is)) (cases_lt b c.args.low)
