use Rattle.std.proofs.Common.{◌≡◌, suc, ◌+◌, ◌-◌, ◌≤◌, Some, true, sym, refl, ◌∙◌, add-one, ⊎_elim, arith}
use Rattle.anystr.proofs.Boundaries.{boundary_from, boundary_true, offset-within}
use Rattle.cuts.specs.Cuts.{size, at}
use Rattle.cuts.proofs.Back.{back_used, back_none, back_cut}
use Rattle.bytesinner.specs.splits.Back.{opening}
use Rattle.bytesinner.proofs.splits.back.BackCutter.next_piece.Goals as goal

pub invariant_of-self : goal.invariant_of-self
invariant_of-self g c =
    let es = g.S.AnyStr.elements c.args.self.now.text in
    record { placed = boundary_true es 0 (0, refl); few = omega arith; looked = c.next_mark-mark.ensures.seen }

pub invariant_of-self-2 : goal.invariant_of-self-2
invariant_of-self-2 g c =
    let k = c.args.self.now in
    let mark = c.in-Some.mark in
    let found = c.in-Some.ensures.value.1 in
    let long = (g.met.F.Searcher.lawful k.searcher k.text).nonempty mark.start mark.end found.is in
    let es = g.S.AnyStr.elements k.text in
    record {
      placed = boundary_true es mark.start c.in-Some.ensures.cut.0;
      few = omega (arith, found.ahead);
      looked = c.next_mark-mark.ensures.seen;
    }

pub returns-in_default : goal.returns-in_default
returns-in_default g c =
    let k = c.args.self.now in
    let es = g.S.AnyStr.elements k.text in
    let on = opening k in
    let law = g.met.F.Searcher.lawful k.searcher k.text in
    let placed = boundary_from es k.progress.place k.placed in
    let within : k.progress.place ≤ size on = omega (arith, offset-within es placed.0, placed.1) in
    let all : size on - 0 ≡ size on = omega arith in
    let p = k.progress in
    let last = ⊎_elim
    (back_used on law p.place p.made p.spent c.if-self.false within)
    (back_none on law p.place p.made p.spent c.if-self.false within)
    c.in_default.ensures.value in
    record {
      step = (λ i. (Some (0, k.progress.place), at (all i) k.progress.made true)) ∙ sym last;
      same = record { text = refl; searcher = refl; bound = refl };
      cut = ((0, refl), placed);
    }

pub returns : goal.returns
returns g c =
    let k = c.args.self.now in
    let mark = c.in-Some.mark in
    let es = g.S.AnyStr.elements k.text in
    let on = opening k in
    let law = g.met.F.Searcher.lawful k.searcher k.text in
    let placed = boundary_from es k.progress.place k.placed in
    let within : k.progress.place ≤ size on = omega (arith, offset-within es placed.0, placed.1) in
    let one : k.progress.made + 1 ≡ suc k.progress.made = add-one k.progress.made in
    let found = c.in-Some.ensures.value in
    let p = k.progress in
    let cut = back_cut on law p.place p.made p.spent c.if-self.false within _ _ found.0 found.1 in
    record {
      step = (λ i. (Some (mark.end, p.place), at (size on - mark.start) (one i) (c.if-self.false i))) ∙ sym cut;
      same = record { text = refl; searcher = refl; bound = refl };
      cut = (c.in-Some.ensures.cut.1, placed);
    }
