-- What the lines of a text, one after another, show, and what a next of them promises. Assumes nothing.
use Rattle.std.specs.Prelude.{◌≡◌, Bool, List, negsuc, Option}
use Rattle.std.specs.Option.{option_map}
use Rattle.anystr.specs.declared.anystr.AnyStr
use Rattle.searchers.specs.Marks.{Span}
use Rattle.searchers.specs.declared.searcher.Searcher
use Rattle.cuts.specs.Cuts.{Opening, State}
use Rattle.cutters.specs.Calls as cutter
use Rattle.cutters.specs.Calls.{span}
use Rattle.cutters.specs.declared.piece.Piece.{Piece}
use Rattle.bytesinner.specs.lines.Lines.{lines_left, next_line}
use Rattle.bytesinner.specs.declared.lines.reader.Lines.{Lines}

module _ {S F C : Type 0} {s : AnyStr.Ghosts S C} {f : Searcher.Ghosts F S C} where
  -- what its cutter was opened on
  abbrev pub opening : Lines S F C s f → Opening
  opening l = cutter.opening l.cutter

  -- the state of its cutter
  abbrev pub state : Lines S F C s f → State
  state l = cutter.state l.cutter

  -- the lines that are left, in the order in which they come
  abbrev pub left_lines : Lines S F C s f → List Span
  left_lines l = lines_left (opening l) l.keepends (state l)

  -- they are those of this text between marks of this searcher, with their ends or without
  pub record IsOn (on_text : S) (by_searcher : F) (with_ends : Bool) (l : Lines S F C s f) : Type 0 where
    pub cutter : cutter.IsOn on_text by_searcher (negsuc 0) l.cutter
    pub keepends : l.keepends ≡ with_ends

  -- all that a next promises: the line and the state after it, what stays, and that the line lies on boundaries
  pub record LineStep (l : Lines S F C s f) (r : Option Piece) (m : Lines S F C s f) : Type 0 where
    pub step : (option_map span r, state m) ≡ next_line (opening l) l.keepends (state l)
    pub same : cutter.SameOpening l.cutter m.cutter
    pub same_ends : m.keepends ≡ l.keepends
    pub cut : cutter.PieceOn l.cutter r
