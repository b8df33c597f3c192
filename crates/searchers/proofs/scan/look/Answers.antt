use Rattle.std.proofs.Common.{refl}
use Rattle.searchers.proofs.Found.{whole_begins}
use Rattle.searchers.proofs.scan.look.Goals as goal

pub returns : goal.returns
returns g c =
    let marks = g.P.Pattern.marks c.args.pattern.now c.args.bytes.now in
    record { at = refl; seen = whole_begins marks c.args.at c.begins.result c.begins.type_inv c.begins.ensures }
