use Rattle.std.proofs.Common.{◌+◌, arith, subst}
use Rattle.searchers.specs.Seen.{Begins}
use Rattle.searchers.proofs.Found.{rest_begins}
use Rattle.searchers.proofs.scan.bits_from.Goals as goal

pub returns-in-Some : goal.returns-in-Some
returns-in-Some g c =
    let marks = g.P.Pattern.marks c.args.pattern.now c.args.bytes.now in
    let rest = c.in-Some.ensures in record {
      low = rest.low;
      near = rest.near;
      seen = λ of. (of, rest_begins marks c.args.seen.now c.args.from c.in-Some.bits of rest);
    }

pub returns : goal.returns
returns g c =
    let marks = g.P.Pattern.marks c.args.pattern.now c.args.bytes.now in
    let seen = c.look.result in
    let at = c.look.ensures.at in record {
      low = omega arith;
      near = omega arith;
      seen = λ of. (c.look.ensures.seen, subst (λ n. Begins marks n (seen.at + 64) seen.bits) at c.look.ensures.seen);
    }
