use Rattle.anystr.proofs.Boundaries.{boundary_true}
use Rattle.cutters.proofs.cutter.Cutter.last.Goals as goal

pub invariant_of-self : goal.invariant_of-self
invariant_of-self g c = record {
  placed = boundary_true (g.S.AnyStr.elements c.args.self.now.text) c.rest-piece.result.end c.rest-piece.ensures.cut.1;
  few = c.args.self.now.few;
  behind = λ h. cc;
  looked = c.args.self.now.looked;
}
