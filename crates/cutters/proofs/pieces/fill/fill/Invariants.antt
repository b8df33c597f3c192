use Rattle.std.proofs.Common.{◌≡◌, take, drop}
use Rattle.cutters.specs.pieces.Sources.{Filled, Keeps}
use Rattle.cutters.proofs.pieces.fill.fill.Given as goal

-- the first pieces stand in the list, and what is left of the source follows them
abbrev pub invariant-loop-place : goal.invariant-loop-place
invariant-loop-place g l =
    Filled (take l.place-index (g.P.Pieces.left l.initial.source)) l.initial.places l.places
    × (g.P.Pieces.left l.source ≡ drop l.place-index (g.P.Pieces.left l.initial.source))
    × Keeps g.P.Iterator.next_gives l.initial.source l.source
