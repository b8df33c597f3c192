use Rattle.std.proofs.Common.{arith}
use Rattle.searchers.specs.bytesets.Sets.{among}
use Rattle.searchers.proofs.Halves.{halves}
use Rattle.searchers.proofs.lanes.last_among.Goals as goal

pub returns : goal.returns
returns c =
    let at = c.args.at in
    let next = c.saturating_add in
    let front = c.half_among-front in
    let back = c.half_among-back in
    halves (among c.args.set.now) c.args.bytes.now at next.result front.result back.result c.joined.result
    (λ within. let least = next.ensures in omega arith)
    front.ensures back.ensures c.joined.ensures.front c.joined.ensures.back
