use Rattle.std.proofs.Common.{◌+◌, refl}
use Rattle.searchers.specs.bytesets.Sets.{among}
use Rattle.searchers.proofs.Halves.{halves}
use Rattle.searchers.proofs.lanes.places_among.Goals as goal

pub returns : goal.returns
returns c =
    let at = c.args.at in
    let front = c.whole_among-front in
    let back = c.whole_among-back in
    halves (among c.args.set.now) c.args.bytes.now at (at + 32) front.result back.result c.joined.result (λ _. refl)
    front.ensures back.ensures c.joined.ensures.front c.joined.ensures.back
