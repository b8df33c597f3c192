use Rattle.std.proofs.Common.{◌≡◌, ℕ, ◌-◌, List, length, reverse, Ok, Err, Result, refl, ap, ◌∙◌}
use Rattle.std.proofs.Common.{arith, length-set, rules}
use Rattle.std.specs.List.{concat}
use Rattle.std.proofs.lemmas.Bool.{eq-eqb, ne_eqb}
use Rattle.std.proofs.lemmas.List.{length_push, length-reverse}
use Rattle.std.proofs.lemmas.Iterator.Consumers.{YieldsList-turn, YieldsList-end}
use Rattle.std.proofs.lemmas.Slice.Zip.{length-zip}
use Rattle.anystr.specs.Bytes.{byte_list}
use Rattle.anystr.specs.OfBytes.{concat-singles}
use Rattle.anystr.specs.declared.refusal.Refusal.{Refusal}
use Rattle.trays.specs.Trays.{Contents, Fills}
use Rattle.bytesinner.specs.tables.Tables.{byte_values, Appends}
use Rattle.bytesinner.specs.tables.Maketrans.{table_from, MapsFirst}
use Rattle.bytesinner.proofs.tables.Partners.{pairs_yielded, partners_none, partners_turn, partners_all, maps_first}
use Rattle.bytesinner.proofs.tables.maketrans.maketrans.Goals as goal

-- what holds of bytes that are pushed holds of those that are appended
pushed_appends : {Tray X : Type 0} (contents : Tray → Contents) (P : List ℕ → Type 0) (bytes : List ℕ)
    (tray tray' : Tray) (r : Result X Refusal) → P bytes → Fills contents (Ok bytes) tray tray' r
    → Appends contents tray tray' P r
pushed_appends contents P bytes tray tray' (Ok _) holds p = (bytes, p.1, holds)
pushed_appends contents P bytes tray tray' (Err _) holds p = tt

pub returns-then-keys-values-clause-fills : goal.returns-then-keys-values-clause-fills
returns-then-keys-values-clause-fills g c =
    let from = byte_list c.args.from.now in
    let to = byte_list c.args.to.now in
    let f = ap length (c.as_bytes-keys.ensures ∙ concat-singles from) in
    let t = ap length (c.as_bytes-values.ensures ∙ concat-singles to) in
    rw (ne_eqb (length from) (length to) (λ e. c.if-keys-values.true (omega arith))) (refl, refl)

pub loop-key-init : goal.loop-key-init
loop-key-init g c =
    let from = byte_list c.args.from.now in
    let to = byte_list c.args.to.now in
    let long : length c.identity-table.result ≡ byte_values = search rules in
    let f = ap length (c.as_bytes-keys.ensures ∙ concat-singles from) in
    let t = ap length (c.as_bytes-values.ensures ∙ concat-singles to) in
    record {
      long = long;
      even = omega arith;
      partners = partners_none c.identity-table.result from to (length from - 0) (omega arith) c.identity-table.ensures;
    }

pub loop-key-preserved : goal.loop-key-preserved
loop-key-preserved g c =
    let from = byte_list c.args.from.now in
    let to = byte_list c.args.to.now in
    let pairs = pairs_yielded from to (cc) (cc) in
    let inv = c.loop-key.invariant in
    let xs = c.loop-key.yielded in
    let at = c.in-Some in
    let next = YieldsList-turn pairs xs _ c.loop-key.yielded_by _ c.next.new.self _ at.is c.next.ensures.steps in
    let one = length_push xs (at.key, at.value) in
    record {
      long = length-set c.loop-key.table at.key.now at.value.now ∙ inv.long;
      even = inv.even;
      partners = partners_turn c.loop-key.table from to _ _ _ _ inv.even next.0 next.1 one inv.long inv.partners;
    }

pub returns : goal.returns
returns g c =
    let from = byte_list c.args.from.now in
    let to = byte_list c.args.to.now in
    let pairs = pairs_yielded from to (cc) (cc) in
    let inv = c.loop-key.invariant in
    let xs = c.loop-key.yielded in
    let end = YieldsList-end pairs xs _ c.loop-key.yielded_by _ c.next.new.self c.in-None.is c.next.ensures.steps in
    let zipped = length-zip (reverse from) (reverse to) in
    let none : length from - length xs ≡ 0 =
    omega (arith, end.1, zipped, length-reverse from, length-reverse to) in
    let table = c.loop-key.table in
    let made = concat-singles table ∙ partners_all table from to _ none inv.long inv.partners in
    let shown = ap concat (c.new.ensures.given (omega (arith, inv.long))) ∙ made in
    let push = c.push_str.ensures in
    let fills = rw shown at push.fills in
    let contents = g.T.AnyStrContainer.contents in
    let after = c.push_str.new.self in
    let maps = maps_first from to inv.even in
    record {
      fills = rw (eq-eqb (length from) (length to) inv.even) fills;
      same_loan = push.same_loan;
      first = pushed_appends contents (MapsFirst from to) (table_from from to) _ after c.push_str.result maps fills;
    }
