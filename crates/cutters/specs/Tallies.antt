-- The marks that a cutter has still to cut, counted. Assumes nothing.
use Rattle.std.specs.Prelude.{◌≡◌, List, length}
use Rattle.anystr.specs.declared.anystr.AnyStr
use Rattle.searchers.specs.Marks.{Span}
use Rattle.searchers.specs.declared.searcher.Searcher
use Rattle.cuts.specs.Cuts.{cut_from, cut_bytes}
use Rattle.cutters.specs.Calls.{opening, state}
use Rattle.cutters.specs.declared.cutter.Cutter.{Cutter}
use Rattle.cutters.specs.declared.cutter.tally.Tally.{Tally}

-- the marks that a cutter cuts from its place on, unless it is spent
abbrev pub marks_ahead : {S F C : Type 0} {s : AnyStr.Ghosts S C} {f : Searcher.Ghosts F S C} → Cutter S F C s f
    → List Span
marks_ahead c = cut_from (opening c) (state c).made (state c).place

-- how many marks these are, and the bytes that they take together
pub record IsTallyOf (ms : List Span) (tally : Tally) : Type 0 where
  pub marks : tally.marks ≡ length ms
  pub bytes : tally.bytes ≡ cut_bytes ms
