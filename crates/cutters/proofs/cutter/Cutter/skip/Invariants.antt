use Rattle.std.proofs.Common.{◌≡◌, ◌+◌, length}
use Rattle.cuts.specs.Cuts.{nexts, pieces_left}
use Rattle.cutters.specs.Calls.{opening, state, SameOpening}
use Rattle.cutters.proofs.cutter.Cutter.skip.Given as goal

-- as many nexts are done as turns, and each gave a piece
abbrev pub invariant-loop-left : goal.invariant-loop-left
invariant-loop-left g l =
    (state l.self ≡ nexts (opening l.initial.self) l.left (state l.initial.self))
    × (l.left + length (pieces_left (opening l.initial.self) (state l.self))
    ≡ length (pieces_left (opening l.initial.self) (state l.initial.self)))
    × SameOpening l.initial.self l.self
