-- What the runs of a text, one after another, show, and what a next of them promises. Assumes nothing.
use Rattle.std.specs.Prelude.{◌≡◌, ℕ, List, Option}
use Rattle.std.specs.Option.{option_map}
use Rattle.std.specs.List.{concat}
use Rattle.anystr.specs.declared.anystr.AnyStr
use Rattle.searchers.specs.Marks.{Span}
use Rattle.cutters.specs.Calls.{span}
use Rattle.cutters.specs.declared.piece.Piece.{Piece}
use Rattle.bytesinner.specs.words.Words.{runs_left, next_run}
use Rattle.bytesinner.specs.declared.words.runs.Runs.{Runs}

module _ {S C : Type 0} (s : AnyStr.Ghosts S C) where
  -- the bytes of the text
  abbrev pub bytes : Runs S C s → List ℕ
  bytes rs = concat (s.elements rs.text)

  -- the runs that are left, in the order in which they come
  abbrev pub left_runs : Runs S C s → List Span
  left_runs rs = runs_left (bytes rs) rs.place

  -- they are those of this text from this place on
  pub record IsOn (on_text : S) (from : ℕ) (rs : Runs S C s) : Type 0 where
    pub text : rs.text ≡ on_text
    pub place : rs.place ≡ from

  -- all that a next promises: the run and the place after it, and that the text stays
  pub record RunStep (rs : Runs S C s) (r : Option Piece) (ss : Runs S C s) : Type 0 where
    pub step : (option_map span r, ss.place) ≡ next_run (bytes rs) rs.place
    pub same : ss.text ≡ rs.text
