use Rattle.std.proofs.Common.{sym, refl, subst}
use Rattle.anystr.specs.Elements.{Boundary}
use Rattle.anystr.proofs.Boundaries.{boundary_from, end_on}
use Rattle.cutters.proofs.cutter.Cutter.rest.Goals as goal

pub returns : goal.returns
returns g c =
    let es = g.S.AnyStr.elements c.args.self.now.text in
    record {
      step = ((λ i. (c.args.self.now.progress.place, c.bytes_len.ensures i)), refl);
      cut = (
        boundary_from es c.args.self.now.progress.place c.args.self.now.placed,
        subst (Boundary es) (sym c.bytes_len.ensures) (end_on es),
      );
    }
