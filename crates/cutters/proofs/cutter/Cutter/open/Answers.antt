use Rattle.std.proofs.Common.{◌≡◌, sym, refl, ap, arith, w64, to_z, of_z}
use Rattle.std.proofs.lemmas.Int.{to_z-of_z}
use Rattle.anystr.proofs.Boundaries.{boundary_true}
use Rattle.cuts.specs.Cuts.{State}
use Rattle.cuts.proofs.Runs.{runs-law}
use Rattle.cutters.proofs.cutter.Cutter.open.Goals as goal

pub returns : goal.returns
returns g c =
    let f = c.args.searcher in
    let es = g.S.AnyStr.elements c.args.text in
    let same : to_z w64 (of_z w64 c.args.bound) ≡ c.args.bound = to_z-of_z w64 c.args.bound c.ranges.bound in
    record {
      on = record { text = refl; searcher = refl; bound = same };
      state = c.from_place.ensures;
      law = runs-law _ (g.met.F.Searcher.lawful c.args.searcher c.args.text);
    }

pub invariant_of-result : goal.invariant_of-result
invariant_of-result g c =
    let at = c.from_place.ensures in
    record {
      placed = boundary_true (g.S.AnyStr.elements c.args.text) _ (0, λ i. (sym at i).place);
      few = omega (arith, ap (λ (s : State). s.made) at);
      behind = λ _. omega (arith, ap (λ (s : State). s.made) at);
      looked = c.nothing.ensures (g.F.Searcher.marks c.args.searcher (g.S.AnyStr.elements c.args.text));
    }
