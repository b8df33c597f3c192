use Rattle.std.proofs.Common.{◌<◌, None, Some, length, arith, subst, sym, ⊎_elim}
use Rattle.searchers.specs.Marks.{Finds}
use Rattle.searchers.specs.substring.Occurrences.{occurrence, fits}
use Rattle.searchers.proofs.substring.Far.{found}
use Rattle.searchers.proofs.substring.next_occurrence.Goals as goal

pub returns-in_err-get-clause-value : goal.returns-in_err-get-clause-value
returns-in_err-get-clause-value c of =
    let n = c.args.needle.now in
    let bs = c.args.bytes.now in
    subst (Finds (occurrence n bs) c.args.from) (sym c.from_residual.ensures)
    (λ b e ge m.
    let fit = fits n bs b e m in
    ⊎_elim (λ past. omega arith) (λ past. omega arith) c.in_err-get.ensures.lookup.0)

pub returns-in_err-start-clause-value : goal.returns-in_err-start-clause-value
returns-in_err-start-clause-value c of =
    let n = c.args.needle.now in
    let bs = c.args.bytes.now in
    let some : 0 < length n = let long = c.if-needle-le-LANES.false in omega arith in
    let cut = c.in_ok-get.ensures.lookup.0.2 in
    subst (Finds (occurrence n bs) c.args.from) (sym c.from_residual-in_err-start.ensures)
    (found n bs some c.args.from c.in_ok-get.field-0.now cut None c.in_err-start.ensures)

pub returns-clause-value : goal.returns-clause-value
returns-clause-value c of =
    let some : 0 < length c.args.needle.now = let long = c.if-needle-le-LANES.false in omega arith in
    let cut = c.in_ok-get.ensures.lookup.0.2 in
    found c.args.needle.now c.args.bytes.now some c.args.from c.in_ok-get.field-0.now cut (Some c.in_ok-start.field-0)
    c.in_ok-start.ensures
