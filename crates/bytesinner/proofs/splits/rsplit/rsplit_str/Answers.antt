use Rattle.std.proofs.Common.{List, ◌++◌, reverse, drop, Ok, Err, ◌∙◌, subst, w64}
use Rattle.std.proofs.lemmas.Int.{to_z-of_z}
use Rattle.std.proofs.lemmas.Result.{err_from_is_err_and}
use Rattle.std.specs.List.{concat}
use Rattle.anystr.specs.Places.{Lists}
use Rattle.searchers.specs.Marks.{Span}
use Rattle.bytesinner.proofs.splits.Laws.{rsplit-kept}
use Rattle.bytesinner.proofs.splits.Turned.{from_back, opened-left, accepted, turned-listed, turned-refused}
use Rattle.bytesinner.proofs.splits.rsplit.rsplit_str.Goals as goal

pub returns-in_err-n : goal.returns-in_err-n
returns-in_err-n g c =
    let bytes = concat (g.S.AnyStr.elements c.args.text.now) in
    let sep = concat (g.S.AnyStr.elements c.args.sep.now) in
    let qs = from_back bytes sep c.args.maxsplit in
    let list = c.args.places.now in
    let list' = c.list.new.places in
    let e = c.in_err-n.field-0.0 in
    let o = c.open.ensures in
    let bound = to_z-of_z w64 c.args.maxsplit c.ranges.maxsplit in
    let is =
    opened-left c.open.result o.on o.state
    ∙ (λ i. from_back bytes (concat (g.S.AnyStr.elements (c.new.ensures i))) (bound i)) in
    let there : Lists (Ok qs) list list' (Err e) =
    subst (λ (ps : List Span). Lists (Ok ps) list list' (Err e)) is c.in_err-n.ensures in
    let turned = turned-refused qs list list' e there in
    let here = accepted sep (reverse qs) list list' (Err e) c.in_ok-check.ensures turned in
    let p = err_from_is_err_and c.from_residual-in_err-n.result c.from_residual-in_err-n.ensures.1 in
    rw (p.1, p.2) (record { list = here; rule = tt; restores = tt; cut = tt })

pub returns : goal.returns
returns g c =
    let es = g.S.AnyStr.elements c.args.text.now in
    let sep = concat (g.S.AnyStr.elements c.args.sep.now) in
    let qs = from_back (concat es) sep c.args.maxsplit in
    let list = c.args.places.now in
    let list' = c.list.new.places in
    let n = c.in_ok-n.n in
    let o = c.open.ensures in
    let front = c.reverse.new.self in
    let list'' = front ++ drop n list' in
    let bound = to_z-of_z w64 c.args.maxsplit c.ranges.maxsplit in
    let is =
    opened-left c.open.result o.on o.state
    ∙ (λ i. from_back (concat es) (concat (g.S.AnyStr.elements (c.new.ensures i))) (bound i)) in
    let there : Lists (Ok qs) list list' (Ok n) =
    subst (λ (ps : List Span). Lists (Ok ps) list list' (Ok n)) is c.in_ok-n.ensures in
    let turned = turned-listed qs list list' front n there c.reverse.ensures.after in
    let here = accepted sep (reverse qs) list list'' (Ok n) c.in_ok-check.ensures turned in
    let whole = g.S.AnyStr.whole c.args.text.now c.args.sep.now in
    let k = rsplit-kept es sep whole c.args.maxsplit list list'' (Ok n) here in
    record { list = here; rule = k.rule; restores = k.restores; cut = k.cut }
