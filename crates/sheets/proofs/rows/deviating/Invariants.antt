use Rattle.std.proofs.Common.{◌≡◌, map, take, vec_items}
use Rattle.anystr.specs.Places.{stretches}
use Rattle.anystr.specs.Texts.{bytes_of}
use Rattle.sheets.specs.Rows.{deviating, seen}
use Rattle.sheets.proofs.rows.deviating.Given as goal

-- the rows gone through are compared
abbrev pub invariant-loop-index : goal.invariant-loop-index
invariant-loop-index g l =
    map seen (vec_items l.deviants)
    ≡ deviating (bytes_of g.S.AnyStr l.fn.sep) (bytes_of g.S.AnyStr l.fn.sheet) l.expected 1
    (take l.index (stretches l.rows))
