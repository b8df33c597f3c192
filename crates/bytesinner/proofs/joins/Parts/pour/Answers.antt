use Rattle.std.proofs.Common.{◌≡◌, ◌+◌, ◌<◌, ◌++◌, map, length, get_or, drop, sym, refl, ◌∙◌, subst, arith}
use Rattle.std.specs.List.{concat}
use Rattle.anystr.specs.Places.{stretch, stretches, part}
use Rattle.anystr.specs.Refusals.{coded}
use Rattle.anystr.specs.Texts.{bytes_of}
use Rattle.trays.specs.Gathers.{gathered_contents, gathered_loan, lent_tray}
use Rattle.trays.specs.Trays.{gained}
use Rattle.trays.specs.declared.gather.Gather.{Gather}
use Rattle.cutters.proofs.Pouring.{Pouring, took_next}
use Rattle.bytesinner.specs.joins.Parts.{joined_parts}
use Rattle.bytesinner.proofs.joins.Joining.{nowhere, rest_of, first-part, part_more}
use Rattle.bytesinner.proofs.joins.Parts.pour.Goals as goal
use Rattle.bytesinner.proofs.joins.Parts.pour.Goals.{then-index-gt0, else-index-gt0}

pub loop-index-preserved : goal.loop-index-preserved
loop-index-preserved g c =
    let parts = c.args.self.now in
    let es = g.S.AnyStr.elements parts.text in
    let sep = bytes_of g.S.AnyStr parts.sep in
    let places = parts.places.now in
    let i = c.loop-index.index in
    let lt : i < length places = omega arith in
    let inv = c.loop-index.invariant in
    let full = gained (g.T.AnyStrContainer.contents c.args.tray.now) (joined_parts parts) in
    let later = rest_of sep (i + 1) (map (part (concat es)) (stretches (drop (i + 1) places))) in
    let here = part (concat es) (stretch (get_or places i nowhere)) in
    let so_far : Gather g.row.T.Denot g.T.AnyStrContainer → Type 0 =
    λ t. Pouring (gathered_contents t) (here ++ later) full
    × (gathered_loan t ≡ g.T.AnyStrContainer.loan c.args.tray.now) × (lent_tray t ≡ lent_tray c.new-gather.result) in
    let mid : so_far c.if-index-gt0.gather = elim c.if-index-gt0.branch [
      | then-index-gt0 w ↦
          let ahead = part_more sep (concat es) places i lt w.if-index-gt0.true in
          let push = w.push_str.ensures in
          let more = took_next sep _ _ (coded w.push_str.result) ahead inv.poured push.fills in
          subst so_far (sym w.gather-is) (more, push.same_loan ∙ inv.same_loan, push.lent ∙ inv.lent)
      | else-index-gt0 w ↦
          let same = rw (first-part sep (concat es) places i lt w.if-index-gt0.false) at inv.poured in
          subst so_far (sym w.gather-is) (same, inv.same_loan, inv.lent)
    ] in
    let push = c.push_part.ensures in
    record {
      poured = took_next _ later _ (coded c.push_part.result) refl mid.0 push.fills;
      same_loan = push.same_loan ∙ mid.1;
      lent = push.lent ∙ mid.2;
    }
