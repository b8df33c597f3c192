use Rattle.std.proofs.Common.{◌≡◌, true, sym, refl, ap, ◌∙◌, arith, w64, SFits, rules}
use Rattle.std.proofs.lemmas.Int.{to_z-of_z}
use Rattle.anystr.proofs.Boundaries.{boundary_from, boundary_true}
use Rattle.cuts.specs.Cuts.{fewer}
use Rattle.cuts.proofs.Found.{none_found, used_up}
use Rattle.cutters.specs.Calls.{opening}
use Rattle.cutters.proofs.Steps.{rest-step, cut_step}
use Rattle.cutters.proofs.cutter.Cutter.next.Goals as goal

pub returns-then-not-fewer : goal.returns-then-not-fewer
returns-then-not-fewer g c =
    let k = c.args.self.now in
    let es = g.S.AnyStr.elements k.text in
    let on = opening k in
    let law = g.met.F.Searcher.lawful k.searcher k.text in
    let fits : SFits w64 k.bound = search rules in
    let used : fewer k.progress.made k.bound ≡ _ =
    ap (fewer k.progress.made) (sym (to_z-of_z w64 k.bound fits)) ∙ sym c.if-not-fewer.ensures in
    let l = c.last.ensures in
    record {
      step =
          rest-step on law k.progress.place k.progress.made k.progress.spent c.if-self.false
          (used_up on law k.progress.made k.progress.place used) _ _ l.value l.after;
      same = l.same;
      cut = l.cut;
    }

pub returns-in_default : goal.returns-in_default
returns-in_default g c =
    let k = c.args.self.now in
    let es = g.S.AnyStr.elements k.text in
    let on = opening k in
    let law = g.met.F.Searcher.lawful k.searcher k.text in
    let l = c.last-in_default.ensures in
    record {
      step =
          rest-step on law k.progress.place k.progress.made k.progress.spent c.if-self.false
          (none_found on law k.progress.made k.progress.place (c.in_default.ensures k.looked).value) _ _ l.value
          l.after;
      same = record { text = l.same.text; searcher = l.same.searcher; bound = l.same.bound };
      cut = l.cut;
    }

pub returns : goal.returns
returns g c =
    let k = c.args.self.now in
    let es = g.S.AnyStr.elements k.text in
    let on = opening k in
    let law = g.met.F.Searcher.lawful k.searcher k.text in
    let fits : SFits w64 k.bound = search rules in
    let more : fewer k.progress.made k.bound ≡ true =
    ap (fewer k.progress.made) (sym (to_z-of_z w64 k.bound fits)) ∙ sym c.if-not-fewer.ensures in
    let m = c.in-Some.ensures k.looked in
    record {
      step =
          cut_step on law k.progress.place k.progress.made k.progress.spent c.if-self.false c.in-Some.mark.start
          c.in-Some.mark.end more m.value;
      same = record { text = refl; searcher = refl; bound = refl };
      cut = (boundary_from es k.progress.place k.placed, m.cut.0);
    }

pub invariant_of-self : goal.invariant_of-self
invariant_of-self g c =
    let k = c.args.self.now in
    record { placed = k.placed; few = k.few; behind = k.behind; looked = (c.in_default.ensures k.looked).seen }

pub invariant_of-self-2 : goal.invariant_of-self-2
invariant_of-self-2 g c =
    let k = c.args.self.now in
    let step = c.in-Some.ensures k.looked in
    let found = step.value in
    let law = g.met.F.Searcher.lawful k.searcher k.text in
    let long = law.nonempty _ _ found.is in
    let within = law.within _ _ found.is in
    let from = found.after in
    let behind = k.behind c.if-self.false in
    record {
      placed = boundary_true (g.S.AnyStr.elements k.text) c.in-Some.mark.end step.cut.1;
      few = omega (arith, g.S.AnyStr.few k.text);
      behind = λ _. omega arith;
      looked = step.seen;
    }
