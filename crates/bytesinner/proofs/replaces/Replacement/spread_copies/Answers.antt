use Rattle.std.proofs.Common.{◌≡◌, suc, ◌+◌, ◌<◌, ◌≤◌, [], ◌++◌, length, get_or, sym, refl, ap, ◌∙◌, subst, rules}
use Rattle.std.proofs.Common.{arith}
use Rattle.std.specs.List.{concat}
use Rattle.anystr.specs.Elements.{offset}
use Rattle.anystr.specs.Places.{part}
use Rattle.anystr.specs.Refusals.{coded}
use Rattle.anystr.specs.Texts.{bytes_of}
use Rattle.anystr.proofs.Walking.{offset-all, element_here, none_here, rest-bytes}
use Rattle.trays.specs.Gathers.{gathered_contents, gathered_loan, lent_tray}
use Rattle.trays.specs.Trays.{gained}
use Rattle.trays.specs.declared.gather.Gather.{Gather}
use Rattle.cutters.proofs.Pouring.{Pouring, took_next}
use Rattle.bytesinner.specs.replaces.Replacements.{copies_spread}
use Rattle.bytesinner.proofs.replaces.Spreading.{spread_text-copy_count, copy_count-few}
use Rattle.bytesinner.proofs.replaces.Turning.{to-come, all_poured, left, copy-ahead, last-copy, no-copy}
use Rattle.bytesinner.proofs.replaces.Replacement.spread_copies.Goals as goal
use Rattle.bytesinner.proofs.replaces.Replacement.spread_copies.Goals.{in-Some, in_default}

pub overflow_add-end : goal.overflow_add-end
overflow_add-end g c =
    let text = c.args.self.now.text in
    let at = c.in-Some.ensures in
    let filled = g.S.AnyStr.filled text in
    let e = element_here (g.S.AnyStr.elements text) c.loop.counter c.loop.place c.in-Some.len _ filled
    c.loop.invariant.place at.element at.len in
    omega (arith, e.few, g.S.AnyStr.few text)

pub loop-init : goal.loop-init
loop-init g c =
    let r = c.args.self.now in
    let same = spread_text-copy_count (bytes_of g.S.AnyStr r.to) r.bound (g.S.AnyStr.elements r.text) in
    let begun = c.new-gather.ensures in
    record {
      place = refl;
      poured = rw begun.same (to-come _ _ _ (rw c.requires.count (sym same)) c.requires.fits);
      same_loan = begun.same_loan;
      lent = refl;
    }

pub loop-preserved : goal.loop-preserved
loop-preserved g c =
    let r = c.args.self.now in
    let es = g.S.AnyStr.elements r.text in
    let to = bytes_of g.S.AnyStr r.to in
    let count = c.args.copies in
    let k = c.loop.counter in
    let lt : k < count = omega arith in
    let inv = c.loop.invariant in
    let later = left to es count (k + 1) in
    let full = gained (g.T.AnyStrContainer.contents c.args.tray.now) (copies_spread g.S.AnyStr r) in
    let filled = g.S.AnyStr.filled r.text in
    let first = c.push_str.ensures in
    let first_loan = first.same_loan ∙ inv.same_loan in
    let first_lent = first.lent ∙ inv.lent in
    let so_far : Gather g.row.T.Denot g.T.AnyStrContainer → Type 0 =
    λ t. Pouring (gathered_contents t) later full
    × (gathered_loan t ≡ g.T.AnyStrContainer.loan c.args.tray.now) × (lent_tray t ≡ lent_tray c.new-gather.result) in
    elim c.match-element_at.branch [
      | in-Some w ↦
          let at = w.in-Some.ensures in
          let e = element_here es k c.loop.place w.in-Some.len _ filled inv.place at.element at.len in
          let ahead = copy-ahead to es count k lt e.within in
          let rest = get_or es k [] ++ later in
          let copied = took_next to rest _ (coded c.push_str.result) ahead inv.poured first.fills in
          let second = w.push_part.ensures in
          let same = ap (λ b. b ++ later) (sym e.bytes) in
          let both = took_next _ later _ (coded w.push_part.result) same copied second.fills in
          let done =
          subst so_far (sym w.gather-is) (both, second.same_loan ∙ first_loan, second.lent ∙ first_lent) in
          record { place = w.place-is ∙ e.next; poured = done.0; same_loan = done.1; lent = done.2 }
      | in_default w ↦
          let past = none_here es k c.loop.place filled inv.place w.in_default.ensures.element in
          let few : count ≤ suc (length es) = omega (arith, c.requires.count, copy_count-few (length es) r.bound) in
          let last = last-copy to es count k lt few past in
          let copied = took_next to later _ (coded c.push_str.result) last inv.poured first.fills in
          let done = subst so_far (sym w.gather-is) (copied, first_loan, first_lent) in
          record {
            place = w.place-is ∙ (inv.place ∙ (offset-all es k past ∙ sym (offset-all es (k + 1) (omega arith))));
            poured = done.0;
            same_loan = done.1;
            lent = done.2;
          }
    ]

pub returns-clause-gained : goal.returns-clause-gained
returns-clause-gained g c =
    let r = c.args.self.now in
    let es = g.S.AnyStr.elements r.text in
    let k = c.loop.counter in
    let inv = c.loop.invariant in
    let from = ap (λ a. part (concat es) (a, c.bytes_len.result)) inv.place in
    let to_end = ap (λ b. part (concat es) (offset es k, b)) c.bytes_len.ensures in
    let is = from ∙ (to_end ∙ rest-bytes es k) in
    let last = no-copy (bytes_of g.S.AnyStr r.to) es c.args.copies k c.loop-test.false ∙ ap (λ b. b ++ []) (sym is) in
    let push = c.push_part-2.ensures in
    let done = took_next _ [] _ (coded c.push_part-2.result) last inv.poured push.fills in
    let all = c.finish.ensures.same ∙ all_poured _ _ done in
    search rules
