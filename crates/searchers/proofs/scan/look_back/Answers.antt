use Rattle.std.proofs.Common.{ℕ, ◌-◌, Some, arith}
use Rattle.searchers.proofs.Found.{found_earlier, found_to_start, none_back, whole_ends}
use Rattle.searchers.proofs.scan.look_back.Goals as goal

pub loop-to-init : goal.loop-to-init
loop-to-init g c = (c.requires, omega arith, λ b e past le m. absurd (omega arith), λ of. of)

pub loop-to-preserved : goal.loop-to-preserved
loop-to-preserved g c =
    let marks = g.P.Pattern.marks c.args.pattern.now c.args.bytes.now in
    let before = c.args.before in
    let to = c.loop-to.to in
    let at : ℕ = to - 64 in
    let down = c.look_down-to.result in
    let inv = c.loop-to.invariant in
    let bits = c.ends-ends.result in
    let looked = whole_ends marks at to bits (omega arith) c.ends-ends.type_inv c.ends-ends.ensures in
    let none = none_back marks at to before inv.2 (c.in_default.ensures to looked) in (
      omega (arith, inv.0, c.look_down-to.ensures.high),
      omega (arith, inv.1, c.look_down-to.ensures.high),
      none_back marks down at before none c.look_down-to.ensures.passed,
      λ of. c.ends-ends.ensures,
    )

pub returns-in-Some : goal.returns-in-Some
returns-in-Some g c =
    let marks = g.P.Pattern.marks c.args.pattern.now c.args.bytes.now in
    let inv = c.loop-to.invariant in
    let to = c.loop-to.to in
    let at : ℕ = to - 64 in
    let bits = c.ends-ends.result in
    let looked = whole_ends marks at to bits (omega arith) c.ends-ends.type_inv c.ends-ends.ensures in
    record {
      value = found_earlier marks c.args.before to (Some c.in-Some.mark) inv.1 inv.2 (c.in-Some.ensures to looked);
      seen = λ of. c.ends-ends.ensures;
    }

pub returns-clause-value : goal.returns-clause-value
returns-clause-value g c =
    let marks = g.P.Pattern.marks c.args.pattern.now c.args.bytes.now in
    let inv = c.loop-to.invariant in
    let law = g.P.Pattern.lawful c.args.pattern.now c.args.bytes.now in
    let near = found_to_start marks _ c.loop-to.to c.last_asked.result law c.last_asked.ensures in
    found_earlier marks c.args.before c.loop-to.to c.last_asked.result inv.1 inv.2 near
