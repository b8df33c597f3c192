use Rattle.std.proofs.Common.{sym}
use Rattle.trays.proofs.LabelWrites.{label_kept, label_filled}
use Rattle.trays.proofs.label.LabelAnyStrContainer.push_str.Goals as goal

pub invariant_of-self-2 : goal.invariant_of-self-2
invariant_of-self-2 g c =
    let label = c.self.inside in
    let kept = c.self.invariant in
    let put = c.in_ok-self-inside in
    let text = c.as_bytes.result.now in
    label_kept label.bytes text c.put.new.bytes label.len put.field-0 c.self.told kept.1 kept.0 put.ensures

pub returns-clause-fills : goal.returns-clause-fills
returns-clause-fills g c =
    let label = c.self.inside in
    let kept = c.self.invariant in
    let put = c.in_ok-self-inside in
    let text = c.as_bytes.result.now in
    rw (sym c.self.view_is, sym c.as_bytes.ensures)
    (label_filled label.bytes text c.put.new.bytes label.len put.field-0 c.self.told kept.1 kept.0 put.ensures)
