use Rattle.std.proofs.Common.{◌+◌, ◌-◌, ◌++◌, length, ap, arith, rules, take, drop, ◌∙◌, length-drop}
use Rattle.std.proofs.lemmas.Bool.{false≢true}
use Rattle.std.specs.List.{prefix_len}
use Rattle.std.proofs.lemmas.List.{take_rest}
use Rattle.std.proofs.lemmas.List.Sums.{prefix_len-le-length}
use Rattle.anystr.proofs.Walking.{element_here, none_here}
use Rattle.sheets.specs.Shown.{is_plain}
use Rattle.sheets.proofs.ReadBack.{read-shown}
use Rattle.sheets.proofs.Walks.{shown-more, shown-fits, shown-all, cut-is, run-next, run-more, run-fits}
use Rattle.sheets.proofs.escapes.add_elements.Goals as goal

pub overflow_add-end : goal.overflow_add-end
overflow_add-end g c =
    let text = c.args.text.now in
    let at = c.in-Some.ensures in
    let begins = c.loop-len.invariant.begins in
    let here = element_here _ _ _ c.in-Some.len _ (g.S.AnyStr.filled text) begins at.element at.len in
    omega (arith, here.few, g.S.AnyStr.few text)

pub slice_bounds-after-count : goal.slice_bounds-after-count
slice_bounds-after-count g c =
    let at = c.in-Some.ensures in
    let filled = g.S.AnyStr.filled c.args.text.now in
    let here = element_here _ _ _ c.in-Some.len _ filled c.loop-len.invariant.begins at.element at.len in
    omega (arith, here.few, ap length c.requires.bytes)

pub slice_bounds-after-start : goal.slice_bounds-after-start
slice_bounds-after-start g c =
    let at = c.in-Some.ensures in
    let filled = g.S.AnyStr.filled c.args.text.now in
    let here = element_here _ _ _ c.in-Some.len _ filled c.loop-len.invariant.begins at.element at.len in
    omega (arith, here.few, ap length c.requires.bytes)

pub slice_bounds-add_element-end : goal.slice_bounds-add_element-end
slice_bounds-add_element-end g c =
    let at = c.in-Some.ensures in
    let filled = g.S.AnyStr.filled c.args.text.now in
    let here = element_here _ _ _ c.in-Some.len _ filled c.loop-len.invariant.begins at.element at.len in
    omega (arith, here.few, ap length c.requires.bytes)

pub overflow_add-start : goal.overflow_add-start
overflow_add-start g c =
    let at = c.in-Some.ensures in
    let text = c.args.text.now in
    let begins = c.loop-len.invariant.begins in
    let here = element_here _ _ _ c.in-Some.len _ (g.S.AnyStr.filled text) begins at.element at.len in
    let end = c.loop-len.start + c.in-Some.len in
    let bytes = c.args.bytes.now in
    let rest = take (length bytes - end) (drop end bytes) in
    let short = prefix_len-le-length is_plain rest in
    omega (
      arith,
      here.few,
      short,
      ap length (take_rest bytes end),
      length-drop end bytes,
      c.in_ok-start.ensures.ok.0,
      ap length c.requires.bytes,
      g.S.AnyStr.few text,
    )

pub loop-len-smaller : goal.loop-len-smaller
loop-len-smaller g c =
    let at = c.in-Some.ensures in
    let filled = g.S.AnyStr.filled c.args.text.now in
    let here = element_here _ _ _ c.in-Some.len _ filled c.loop-len.invariant.begins at.element at.len in
    omega (arith, here.some, here.few)

pub loop-len-preserved : goal.loop-len-preserved
loop-len-preserved g c =
    let es = g.S.AnyStr.elements c.args.text.now in
    let at = c.in-Some.ensures in
    let inv = c.loop-len.invariant in
    let here = element_here _ _ _ c.in-Some.len _ (g.S.AnyStr.filled c.args.text.now) inv.begins at.element at.len in
    let is = cut-is _ _ _ _ here _ c.requires.bytes in
    let one = c.in_ok-add_element.ensures in
    let end = c.loop-len.start + c.in-Some.len in
    let bytes = c.args.bytes.now in
    let rest = take (length bytes - end) (drop end bytes) in
    let cut = take_rest bytes end in
    let run = c.in_ok-start.ensures in
    let k = inv.count + 1 in
    let shown = shown-more _ _ _ _ here _ _ _ is inv.added _ one.ok in
    let added = run.ok.1 ∙ ap (λ n. c.add_element.new.out.items ++ take n rest) run.ok.0 in
    record {
      count = k + prefix_len is_plain rest;
      begins =
          ap (λ n. end + n) run.ok.0
          ∙ run-next es k end bytes rest here.next c.requires.bytes cut c.requires.apart;
      added = run-more es k end bytes rest here.next c.requires.bytes cut c.requires.apart _ _ shown _ added;
      grown = omega (arith, inv.grown, one.capacity, run.capacity);
    }

-- with room for all that is shown there was room for this element
pub returns-in_err-add_element-clause-room : goal.returns-in_err-add_element-clause-room
returns-in_err-add_element-clause-room g c room =
    let at = c.in-Some.ensures in
    let inv = c.loop-len.invariant in
    let here = element_here _ _ _ c.in-Some.len _ (g.S.AnyStr.filled c.args.text.now) inv.begins at.element at.len in
    let is = cut-is _ _ _ _ here _ c.requires.bytes in
    let fits = shown-fits _ _ _ _ here _ _ _ is inv.added in
    let no_room = c.in_err-add_element.ensures.room in
    absurd (false≢true (no_room (omega (arith, fits, room, inv.grown, c.args.out.now.ok.0, c.loop-len.out.ok.0))))

-- and for the bytes behind it
pub returns-in_err-start-clause-room : goal.returns-in_err-start-clause-room
returns-in_err-start-clause-room g c room =
    let es = g.S.AnyStr.elements c.args.text.now in
    let at = c.in-Some.ensures in
    let inv = c.loop-len.invariant in
    let here = element_here _ _ _ c.in-Some.len _ (g.S.AnyStr.filled c.args.text.now) inv.begins at.element at.len in
    let is = cut-is _ _ _ _ here _ c.requires.bytes in
    let one = c.in_ok-add_element.ensures in
    let end = c.loop-len.start + c.in-Some.len in
    let bytes = c.args.bytes.now in
    let rest = take (length bytes - end) (drop end bytes) in
    let cut = take_rest bytes end in
    let shown = shown-more _ _ _ _ here _ _ _ is inv.added _ one.ok in
    let fits = run-fits es (inv.count + 1) end bytes rest here.next c.requires.bytes cut c.requires.apart _ _ shown in
    let no_room = c.in_err-start.ensures.room in
    absurd (false≢true (no_room
    (omega (arith, fits, room, inv.grown, one.capacity, c.args.out.now.ok.0, c.add_element.new.out.ok.0))))

pub returns-clause-ok : goal.returns-clause-ok
returns-clause-ok g c =
    let inv = c.loop-len.invariant in
    let past = none_here _ _ _ (g.S.AnyStr.filled c.args.text.now) inv.begins c.in_default.ensures.element in
    let whole = shown-all _ _ _ _ past inv.added in
    search (rules, whole)

pub returns-clause-law : goal.returns-clause-law
returns-clause-law g c = read-shown _ c.requires.apart

pub returns-in_err-add_element-clause-law : goal.returns-in_err-add_element-clause-law
returns-in_err-add_element-clause-law g c = read-shown _ c.requires.apart

pub returns-in_err-start-clause-law : goal.returns-in_err-start-clause-law
returns-in_err-start-clause-law g c = read-shown _ c.requires.apart
