use Rattle.std.proofs.Common.{◌≡◌, ◌≤◌, ◌++◌, length, sym, refl, ap, ◌∙◌, arith}
use Rattle.std.specs.List.{concat}
use Rattle.anystr.specs.Bytes.{byte_list}
use Rattle.anystr.specs.Limits.{most_bytes}
use Rattle.anystr.specs.OfBytes.{singles, concat-singles}
use Rattle.anystr.specs.Refusals.{coded}
use Rattle.cuts.proofs.Left.{to_pour}
use Rattle.cutters.specs.Calls.{opening, state, span}
use Rattle.cutters.proofs.Pouring.{took_next, gap_short}
use Rattle.cutters.proofs.Same.{same_again}
use Rattle.cutters.proofs.Turns.{gave_on, turned}
use Rattle.cutters.proofs.cutter.Cutter.pour_pieces.Goals as goal

pub loop-piece-smaller : goal.loop-piece-smaller
loop-piece-smaller g c =
    let k = c.args.self.now in
    let law = g.met.F.Searcher.lawful k.searcher k.text in
    let same = c.loop-piece.invariant.same in
    omega (arith, (gave_on k c.loop-piece.self c.next.new.self _ law same c.in-Some.ensures.step).left)

pub loop-piece-preserved : goal.loop-piece-preserved
loop-piece-preserved g c =
    let k = c.args.self.now in
    let here = c.loop-piece.self in
    let after = c.next.new.self in
    let to = concat (g.S.AnyStr.elements c.args.to.now) in
    let law = g.met.F.Searcher.lawful k.searcher k.text in
    let inv = c.loop-piece.invariant in
    let gap = c.gap_after.result.now in
    let left = to_pour (opening k) to (state after) in
    let parts =
    turned k here after (span c.in-Some.piece) law inv.same c.in-Some.ensures.step to
    (concat (g.S.AnyStr.elements k.text)) _ gap refl refl c.gap_after.ensures in
    let few : length gap ≤ most_bytes = omega (
      arith,
      g.S.AnyStr.few c.args.to.now,
      ap length c.gap_after.ensures,
      gap_short after.progress.spent to,
    ) in
    let made : concat (singles (byte_list c.new.result)) ≡ gap =
    ap concat (c.new.ensures.given few) ∙ concat-singles gap in
    let piece = took_next _ (gap ++ left) _ (coded c.push_part.result) parts inv.poured c.push_part.ensures.fills in
    let one = gave_on k here after _ law inv.same c.in-Some.ensures.step in
    record {
      poured = took_next gap left _ (coded c.push_str.result) refl piece (rw made at c.push_str.ensures.fills);
      same_loan = c.push_str.ensures.same_loan ∙ (c.push_part.ensures.same_loan ∙ inv.same_loan);
      lent = c.push_str.ensures.lent ∙ (c.push_part.ensures.lent ∙ inv.lent);
      made = sym one.made_all ∙ inv.made;
      ended = one.ended;
      same = same_again k here after inv.same c.in-Some.ensures.same;
    }
