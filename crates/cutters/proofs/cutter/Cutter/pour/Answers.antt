use Rattle.std.proofs.Common.{◌<◌, ◌≤◌, length, Ok, Err, refl, arith}
use Rattle.std.specs.List.{concat}
use Rattle.cuts.specs.Cuts.{needed}
use Rattle.cuts.proofs.Pours.{pours}
use Rattle.cutters.specs.Calls.{opening, state}
use Rattle.cutters.proofs.cutter.Cutter.pour.Goals as goal

pub returns-then-free-needed-clause-step : goal.returns-then-free-needed-clause-step
returns-then-free-needed-clause-step g c =
    let k = c.args.self.now in
    let value = c.measure-needed.ensures in
    let few : c.free.result < c.measure-needed.result = omega arith in (
      pours (opening k) (concat (g.S.AnyStr.elements c.args.to.now)) (state k) _ _ (Err (7, c.measure-needed.result))
          c.if-self.false (omega (arith, few, c.free.ensures, value), λ i. (7, value i), refl),
      refl,
    )

pub returns : goal.returns
returns g c =
    let k = c.args.self.now in
    let to = concat (g.S.AnyStr.elements c.args.to.now) in
    let tray = g.T.AnyStrContainer.contents c.args.tray.now in
    let p = c.pour_pieces.ensures in
    let fits : length (needed (opening k) to (state k)) ≤ length tray.spare =
    omega (arith, c.if-free-needed.false, c.free.ensures, c.measure-needed.ensures) in
    record {
      step = (pours (opening k) to (state k) tray _ (Ok tt) c.if-self.false (fits, p.gained), p.after);
      same = p.same;
      same_loan = p.same_loan;
    }
