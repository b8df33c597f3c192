-- What a cutter from the end shows, and what each call on it promises. Assumes nothing.
use Rattle.std.specs.Prelude.{◌≡◌, ◌-◌, true, false, ◌⊎◌, List, ℤ, Some, None, Option}
use Rattle.std.specs.Option.{option_map}
use Rattle.anystr.specs.declared.anystr.AnyStr
use Rattle.searchers.specs.Marks.{Span, FindsBack}
use Rattle.searchers.specs.declared.mark.Mark.{Mark}
use Rattle.searchers.specs.declared.searcher.Searcher
use Rattle.cuts.specs.Cuts.{Opening, size, State, at, fewer}
use Rattle.cuts.specs.Splits.{left_back, next_back}
use Rattle.cutters.specs.Calls.{span, opening_of, OnText}
use Rattle.cutters.specs.declared.piece.Piece.{Piece}
use Rattle.bytesinner.specs.declared.splits.back.BackCutter.{BackCutter}

module _ {S F C : Type 0} {s : AnyStr.Ghosts S C} {f : Searcher.Ghosts F S C} where
  -- what a cutter was opened on
  abbrev pub opening : BackCutter S F C s f → Opening
  opening c = opening_of s f c.text c.searcher c.bound

  -- its state as it is seen from the end of the text: its place is as far from there
  abbrev pub state : BackCutter S F C s f → State
  state c = at (size (opening c) - c.progress.place) c.progress.made c.progress.spent

  -- the pieces that it has left, in the order in which they come
  abbrev pub left_pieces : BackCutter S F C s f → List Span
  left_pieces c = left_back (opening c) (state c)

  -- it is on this text, with this searcher and this bound
  pub record IsOn (on_text : S) (by_searcher : F) (to_bound : ℤ) (c : BackCutter S F C s f) : Type 0 where
    pub text : c.text ≡ on_text
    pub searcher : c.searcher ≡ by_searcher
    pub bound : c.bound ≡ to_bound

  -- text, searcher and bound are as they were
  pub record SameOpening (c d : BackCutter S F C s f) : Type 0 where
    pub text : d.text ≡ c.text
    pub searcher : d.searcher ≡ c.searcher
    pub bound : d.bound ≡ c.bound

  -- all that a next promises: what it gives and the state after it, what stays, and that the piece lies on boundaries
  pub record BackStep (c : BackCutter S F C s f) (r : Option Piece) (d : BackCutter S F C s f) : Type 0 where
    pub step : (option_map span r, state d) ≡ next_back (opening c) (state c)
    pub same : SameOpening c d
    pub cut : OnText (s.elements c.text) r

  -- the mark that is cut next, if one is
  abbrev pub CutsNext : BackCutter S F C s f → Option Mark → Type 0
  CutsNext c None = (fewer c.progress.made c.bound ≡ false) ⊎ FindsBack (opening c).marks c.progress.place None
  CutsNext c (Some m) = (fewer c.progress.made c.bound ≡ true) × FindsBack (opening c).marks c.progress.place (Some m)
