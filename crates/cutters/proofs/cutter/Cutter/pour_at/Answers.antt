use Rattle.std.proofs.Common.{◌≤◌, length, map, get_or, [], sym, ◌∙◌, arith}
use Rattle.std.proofs.lemmas.List.{get_or_past, get_or-map, length-map, map-set, set_past}
use Rattle.std.proofs.Math.Seq.{map-set_same}
use Rattle.trays.specs.Trays.{empty_tray}
use Rattle.cutters.proofs.Telling.{pours_at}
use Rattle.cutters.proofs.cutter.Cutter.pour_at.Goals as goal

pub returns-then-tray-trays-clause-step : goal.returns-then-tray-trays-clause-step
returns-then-tray-trays-clause-step g c =
    let contents = g.T.AnyStrContainer.contents in
    let trays = c.args.trays.now in
    let here = c.index-trays-tray.result in
    let at = sym (get_or-map contents trays c.args.tray here (empty_tray []) c.if-tray-trays.true) in
    pours_at contents c.args.self.now c.pour.new.self c.args.to.now c.args.tray trays _ c.pour.result
    (contents (get_or trays c.args.tray here)) (contents c.pour.new.tray) at
    (map-set contents trays c.args.tray c.pour.new.tray) c.pour.ensures.step

pub returns-then-tray-trays-clause-same_loans : goal.returns-then-tray-trays-clause-same_loans
returns-then-tray-trays-clause-same_loans g c =
    let loan = g.T.AnyStrContainer.loan in
    map-set_same loan c.args.trays.now c.args.tray c.pour.new.tray c.index-trays-tray.result c.pour.ensures.same_loan

-- the tray that is not there is an empty one, and none of the list changes
pub returns-else-tray-trays-clause-step : goal.returns-else-tray-trays-clause-step
returns-else-tray-trays-clause-step g c =
    let contents = g.T.AnyStrContainer.contents in
    let trays = c.args.trays.now in
    let past : length (map contents trays) ≤ c.args.tray =
    omega (arith, length-map trays contents, c.if-tray-trays.false) in
    let at = c.new.ensures.empty ∙ sym (get_or_past (map contents trays) c.args.tray (empty_tray []) past) in
    pours_at contents c.args.self.now c.pour-else-tray-trays.new.self c.args.to.now c.args.tray trays _
    c.pour-else-tray-trays.result _ _ at (sym (set_past (map contents trays) c.args.tray _ past))
    c.pour-else-tray-trays.ensures.step
