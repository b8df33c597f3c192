use Rattle.std.proofs.Common.{◌≡◌, ◌<◌, ◌-◌, None, Some, length, take, arith, subst, sym, ap}
use Rattle.searchers.specs.Marks.{FindsBack}
use Rattle.searchers.specs.substring.Occurrences.{occurrence, fits}
use Rattle.searchers.proofs.substring.Far.{found_back}
use Rattle.searchers.proofs.substring.previous_occurrence.Goals as goal

pub returns-in_err-start-clause-value : goal.returns-in_err-start-clause-value
returns-in_err-start-clause-value c of =
    let n = c.args.needle.now in
    let bs = c.args.bytes.now in
    let end = c.min.result in
    let least = c.min.ensures in
    let some : 0 < length n = let long = c.if-needle-le-LANES.false in omega arith in
    let whole : end ≡ end - 0 = omega arith in
    let none = found_back n bs some end (take end bs) (ap (λ k. take k bs) whole) None c.in_err-start.ensures in
    subst (FindsBack (occurrence n bs) c.args.before) (sym c.from_residual.ensures)
    (λ b e le m. let fit = fits n bs b e m in none b e (omega arith) m)

pub returns-clause-value : goal.returns-clause-value
returns-clause-value c of =
    let n = c.args.needle.now in
    let bs = c.args.bytes.now in
    let end = c.min.result in
    let least = c.min.ensures in
    let some : 0 < length n = let long = c.if-needle-le-LANES.false in omega arith in
    let whole : end ≡ end - 0 = omega arith in
    let cut = ap (λ k. take k bs) whole in
    let last = found_back n bs some end (take end bs) cut (Some c.in_ok-start.start) c.in_ok-start.ensures in
    record {
      ahead = omega (arith, last.ahead);
      is = last.is;
      greatest = λ b e le m. let fit = fits n bs b e m in last.greatest b e (omega arith) m;
    }
