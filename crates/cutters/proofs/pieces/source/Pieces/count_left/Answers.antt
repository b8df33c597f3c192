use Rattle.std.proofs.Common.{◌∙◌}
use Rattle.cutters.proofs.pieces.Counted.{counted}
use Rattle.cutters.proofs.pieces.source.Pieces.count_left.Goals as goal

pub returns : goal.returns
returns g c =
    let ran = c.count.ensures.ran in
    ran.2 ∙ counted g.Self.Iterator.next_gives g.Self.Pieces.left g.met.Self.Pieces.gives c.args.self ran.0 ran.1
