use Rattle.std.proofs.Common.{Ok, subst}
use Rattle.std.specs.List.{concat}
use Rattle.anystr.specs.Places.{Lists}
use Rattle.bytesinner.specs.Written.{Cuttable}
use Rattle.bytesinner.specs.lines.Lines.{lines_of}
use Rattle.bytesinner.proofs.Written.{written}
use Rattle.bytesinner.proofs.lines.Opened.{opened-left}
use Rattle.bytesinner.proofs.lines.Read.{lines-law}
use Rattle.bytesinner.proofs.lines.OnText.{lines-cut}
use Rattle.bytesinner.proofs.lines.splitlines.Goals as goal

pub returns : goal.returns
returns g c =
    let es = g.S.AnyStr.elements c.args.text.now in
    let ends = c.args.args.keepends in
    let old = c.args.places.now in
    let new = c.list.new.places in
    let n = c.list.result in
    let all = opened-left c.new.result c.new.ensures.on c.new.ensures.state in
    let list : Lists (Ok (lines_of (concat es) ends)) old new n =
    subst (λ ls. Lists (Ok ls) old new n) all c.list.ensures in
    let cut = written (Cuttable es) _ (lines-cut es c.ascii_apart.ensures ends) old new n list in
    record { value = list; law = lines-law (concat es); cut = cut }
