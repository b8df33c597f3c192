use Rattle.std.proofs.Common.{◌≡◌, true, Option, Some, None, inl, inr, sym, ap, ◌∙◌, w64, SFits, rules}
use Rattle.std.proofs.lemmas.Int.{to_z-of_z}
use Rattle.anystr.specs.declared.anystr.AnyStr
use Rattle.searchers.specs.Marks.{FindsBack}
use Rattle.searchers.specs.declared.mark.Mark.{Mark}
use Rattle.searchers.specs.declared.searcher.Searcher
use Rattle.cuts.specs.Cuts.{fewer}
use Rattle.bytesinner.specs.splits.Back.{opening, CutsNext}
use Rattle.bytesinner.specs.declared.splits.back.BackCutter.{BackCutter}
use Rattle.bytesinner.proofs.splits.back.BackCutter.next_mark.Goals as goal

pub returns-then-not-fewer : goal.returns-then-not-fewer
returns-then-not-fewer g c =
    let k = c.args.self.now in
    let fits : SFits w64 k.bound = search rules in
    let used = ap (fewer k.progress.made) (sym (to_z-of_z w64 k.bound fits)) ∙ sym c.if-not-fewer.ensures in
    record { value = inl used; cut = tt; seen = c.requires }

found : {S F C : Type 0} {s : AnyStr.Ghosts S C} {f : Searcher.Ghosts F S C} (c : BackCutter S F C s f)
    → fewer c.progress.made c.bound ≡ true
    → (r : Option Mark) → FindsBack (opening c).marks c.progress.place r → CutsNext c r
found c more None h = inr h
found c more (Some m) h = (more, h)

pub returns : goal.returns
returns g c =
    let k = c.args.self.now in
    let fits : SFits w64 k.bound = search rules in
    let more = ap (fewer k.progress.made) (sym (to_z-of_z w64 k.bound fits)) ∙ sym c.if-not-fewer.ensures in
    let step = c.resume_back.ensures c.requires in
    record { value = found k more c.resume_back.result step.value; cut = step.cut; seen = step.seen }
