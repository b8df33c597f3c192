use Rattle.std.proofs.Common.{rules}
use Rattle.std.specs.List.{concat}
use Rattle.anystr.specs.Places.{Lists}
use Rattle.bytesinner.specs.splits.Separated.{split_of}
use Rattle.bytesinner.proofs.splits.Laws.{split-kept}
use Rattle.bytesinner.proofs.splits.split.split_str.Goals as goal

pub returns : goal.returns
returns g c =
    let es = g.S.AnyStr.elements c.args.text.now in
    let sep = concat (g.S.AnyStr.elements c.args.sep.now) in
    let old = c.args.places.now in
    let new = c.list.new.places in
    let list : Lists (split_of (concat es) sep c.args.maxsplit) old new c.list.result = search rules in
    let whole = g.S.AnyStr.whole c.args.text.now c.args.sep.now in
    let k = split-kept es sep whole c.args.maxsplit old new c.list.result list in
    record { list = list; rule = k.rule; restores = k.restores; cut = k.cut }
