use Rattle.std.proofs.Common.{◌≤◌, Some, arith}
use Rattle.searchers.proofs.Found.{found_earlier, none_past, rest_ends}
use Rattle.searchers.proofs.scan.previous_mark.Goals as goal

pub returns-in_default : goal.returns-in_default
returns-in_default g c =
    let marks = g.P.Pattern.marks c.args.pattern.now c.args.bytes.now in
    let short : c.min-to.result ≤ c.args.before = omega (arith, c.min-to.ensures) in
    let law = g.P.Pattern.lawful c.args.pattern.now c.args.bytes.now in
    let clear =
    none_past marks _ c.args.before c.min-to.result law (λ e le within. omega (arith, c.min-to.ensures)) in
    record {
      value = λ of.
          found_earlier marks c.args.before c.min-to.result c.look_back.result short clear c.look_back.ensures.value;
      seen = c.look_back.ensures.seen;
    }

pub returns-in-Some-last_of-clause-value : goal.returns-in-Some-last_of-clause-value
returns-in-Some-last_of-clause-value g c of =
    let marks = g.P.Pattern.marks c.args.pattern.now c.args.bytes.now in
    let to = c.min-to.result in
    let short : c.min-to.result ≤ c.args.before = omega (arith, c.min-to.ensures) in
    let law = g.P.Pattern.lawful c.args.pattern.now c.args.bytes.now in
    let clear =
    none_past marks _ c.args.before c.min-to.result law (λ e le within. omega (arith, c.min-to.ensures)) in
    let left = rest_ends marks c.args.seen.now to c.in-Some.ends of c.in-Some.ensures in
    found_earlier marks c.args.before to (Some c.in-Some-last_of.mark) short clear
    (c.in-Some-last_of.ensures to left)

pub returns : goal.returns
returns g c =
    let marks = g.P.Pattern.marks c.args.pattern.now c.args.bytes.now in
    let at = c.args.seen.now.at in
    let to = c.min-to.result in
    let short : c.min-to.result ≤ c.args.before = omega (arith, c.min-to.ensures) in
    let law = g.P.Pattern.lawful c.args.pattern.now c.args.bytes.now in
    let clear =
    none_past marks _ c.args.before c.min-to.result law (λ e le within. omega (arith, c.min-to.ensures)) in
    let low = c.in-Some.ensures.low in
    record {
      value = λ of.
          let left = rest_ends marks c.args.seen.now to c.in-Some.ends of c.in-Some.ensures in
          let none = c.in_default-last_of.ensures to left in
          found_earlier marks c.args.before to c.look_back-2.result short clear
          (found_earlier marks to at c.look_back-2.result (omega arith) none c.look_back-2.ensures.value);
      seen = c.look_back-2.ensures.seen;
    }
