use Rattle.std.proofs.Common.{◌≡◌, true, false, sym, ap, ◌∙◌, arith, w64, SFits, rules}
use Rattle.std.proofs.lemmas.Int.{to_z-of_z}
use Rattle.cuts.specs.Cuts.{fewer}
use Rattle.cuts.proofs.Found.{none_found, used_up}
use Rattle.cutters.specs.Calls.{opening}
use Rattle.cutters.proofs.Tallying.{place-within, one_cut, all_cut}
use Rattle.cutters.proofs.cutter.Cutter.walk.Goals as goal

pub loop-text-init : goal.loop-text-init
loop-text-init g c =
    let k = c.args.self.now in
    let few = k.behind c.requires in
    record {
      seen = k.looked;
      within = place-within k;
      few = omega arith;
      behind = (omega arith, omega arith);
      marks = omega arith;
      bytes = omega arith;
    }

pub loop-text-preserved : goal.loop-text-preserved
loop-text-preserved g c =
    let k = c.args.self.now in
    let here = c.loop-text in
    let inv = here.invariant in
    let law = g.met.F.Searcher.lawful k.searcher k.text in
    let step = c.in-Some.ensures inv.seen in
    let found = step.value in
    let long = law.nonempty _ _ found.is in
    let from = found.after in
    let fits : SFits w64 k.bound = search rules in
    let more : fewer here.made k.bound ≡ true =
    ap (fewer here.made) (sym (to_z-of_z w64 k.bound fits)) ∙ sym c.loop-text-test.ensures in
    let cut = one_cut (opening k) law here.made here.place c.in-Some.mark.start c.in-Some.mark.end more found in
    record {
      seen = step.seen;
      within = law.within _ _ found.is;
      few = omega arith;
      behind = (omega arith, omega arith);
      marks = omega (arith, cut.marks, inv.marks);
      bytes = omega (arith, cut.bytes, inv.bytes);
    }

pub returns : goal.returns
returns g c =
    let k = c.args.self.now in
    let here = c.loop-text in
    let law = g.met.F.Searcher.lawful k.searcher k.text in
    let fits : SFits w64 k.bound = search rules in
    let used : fewer here.made k.bound ≡ false =
    ap (fewer here.made) (sym (to_z-of_z w64 k.bound fits)) ∙ sym c.loop-text-test.ensures in
    all_cut here.invariant.marks here.invariant.bytes (used_up (opening k) law here.made here.place used)

pub returns-in_default : goal.returns-in_default
returns-in_default g c =
    let k = c.args.self.now in
    let here = c.loop-text in
    let law = g.met.F.Searcher.lawful k.searcher k.text in
    let none = (c.in_default.ensures here.invariant.seen).value in
    all_cut here.invariant.marks here.invariant.bytes (none_found (opening k) law here.made here.place none)
