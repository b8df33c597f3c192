use Rattle.std.proofs.Common.{◌≡◌, refl, ap, ◌∙◌, w64, SFits, rules}
use Rattle.std.specs.List.{concat}
use Rattle.std.proofs.lemmas.Int.{to_z-of_z}
use Rattle.anystr.specs.Refusals.{coded}
use Rattle.anystr.specs.Texts.{bytes_of}
use Rattle.cutters.specs.Calls.{opening}
use Rattle.bytesinner.specs.Openings.{opening_at}
use Rattle.bytesinner.specs.replaces.Replacements.{marks_replaced}
use Rattle.bytesinner.proofs.replaces.Filling.{opened_pour, fills, cut_short}
use Rattle.bytesinner.proofs.replaces.Replacement.replace_marks.Goals as goal

pub returns-in_default-3-clause-fills : goal.returns-in_default-3-clause-fills
returns-in_default-3-clause-fills g c =
    let r = c.args.self.now in
    let es = g.S.AnyStr.elements r.text in
    let from = bytes_of g.S.AnyStr r.from in
    let to = bytes_of g.S.AnyStr r.to in
    let cutter = c.open-cutter.result in
    let opened = c.open-cutter.ensures in
    let f : SFits w64 r.bound = search rules in
    let needle = ap (λ s. s.needle) opened.on.searcher ∙ c.new.ensures in
    let bound = opened.on.bound ∙ to_z-of_z w64 r.bound f in
    let is : opening cutter ≡ opening_at (concat es) from r.bound =
    λ i. opening_at (bytes_of g.S.AnyStr (opened.on.text i)) (bytes_of g.S.AnyStr (needle i)) (bound i) in
    let contents = g.T.AnyStrContainer.contents in
    let after = c.pour.new in
    let poured = opened_pour contents cutter r.to c.args.tray.now c.pour.result after.self after.tray _ is opened.state
    c.pour.ensures.step in
    let limit = cut_short es from to r.bound (g.S.AnyStr.few r.text) (g.S.AnyStr.few r.to) in
    fills _ (marks_replaced g.S.AnyStr r) _ _ (coded c.pour.result) refl limit poured
