use Rattle.std.proofs.Common.{◌≡◌, ℕ, ◌-◌, false, sym, ap, ◌∙◌, subst, arith}
use Rattle.anystr.proofs.Boundaries.{boundary_true, end_on}
use Rattle.anystr.specs.Elements.{Boundary}
use Rattle.cuts.specs.Cuts.{State, at, at_opening}
use Rattle.cutters.specs.Calls.{state_at}
use Rattle.cutters.specs.declared.progress.Progress.{Progress}
use Rattle.bytesinner.proofs.splits.back.BackCutter.open.Goals as goal

-- a progress at the end of a text is that of a cutter that was just opened
begun : (p : Progress) (n len : ℕ) → state_at p ≡ at n 0 false → len - p.place ≡ 0
    → at (len - p.place) p.made p.spent ≡ at_opening
begun p n len is end = let made = ap State.made is in let spent = ap State.spent is in cc

pub invariant_of-result : goal.invariant_of-result
invariant_of-result g c =
    let es = g.S.AnyStr.elements c.args.text in
    let place = ap State.place c.from_place.ensures ∙ c.bytes_len-place.ensures in
    let made = ap State.made c.from_place.ensures in
    record {
      placed = boundary_true es _ (subst (Boundary es) (sym place) (end_on es));
      few = omega (arith, g.S.AnyStr.few c.args.text);
      looked = c.nothing.ensures (g.F.Searcher.marks c.args.searcher es);
    }

pub returns-clause-state : goal.returns-clause-state
returns-clause-state g c =
    let e = ap State.place c.from_place.ensures in
    begun c.from_place.result _ _ c.from_place.ensures (omega arith)
