-- What the pieces of a cutter show: the cutter. Assumes nothing.
use Rattle.anystr.specs.declared.anystr.AnyStr
use Rattle.searchers.specs.declared.searcher.Searcher
use Rattle.cutters.specs.declared.cutter.Cutter.{Cutter}
use Rattle.cutters.specs.declared.cutter.iter.PiecesLeft.{PiecesLeft}

-- the cutter whose pieces they are
abbrev pub cutter_of : {S F C : Type 0} {s : AnyStr.Ghosts S C} {f : Searcher.Ghosts F S C} → PiecesLeft S F C s f
    → Cutter S F C s f
cutter_of p = p.cutter
