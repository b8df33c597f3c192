use Rattle.std.proofs.Common.{◌≡◌, ◌≤◌, length, ◌∙◌, arith}
use Rattle.cutters.proofs.pieces.Written.{listed}
use Rattle.cutters.proofs.pieces.fill.list.Goals as goal

pub returns : goal.returns
returns g c =
    let n = c.count_left.ensures in
    let room = c.in_ok-n.ensures in
    let is : c.in_ok-n.n ≡ c.count_left.result = grind arith in
    let fits : length (g.P.Pieces.left c.args.source) ≤ length c.args.places.now = grind arith in
    listed (g.P.Pieces.left c.args.source) c.args.places.now c.fill.new.places c.in_ok-n.n (is ∙ n) fits
    c.fill.ensures.written
