use Rattle.std.proofs.Common.{◌≡◌, ℕ, ◌-◌, ◌≤◌, ◌++◌, length, take, vec_items}
use Rattle.std.specs.List.{concat}
use Rattle.std.specs.Vec.{vec_capacity}
use Rattle.anystr.specs.Elements.{offset}
use Rattle.sheets.specs.Shown.{shown}
use Rattle.sheets.proofs.escapes.add_elements.Given as goal

-- some elements are shown, and the next begins at `start`
abbrev pub invariant-loop-len : goal.invariant-loop-len
invariant-loop-len g l = record {
  count : ℕ;
  begins : l.start ≡ offset (g.S.AnyStr.elements l.text) count;
  added : vec_items l.out ≡ vec_items l.initial.out ++ shown (take count (g.S.AnyStr.elements l.text));
  grown : vec_capacity l.initial.out ≤ vec_capacity l.out;
}

abbrev pub decreases-loop-len : goal.decreases-loop-len
decreases-loop-len g l = length (concat (g.S.AnyStr.elements l.text)) - l.start
