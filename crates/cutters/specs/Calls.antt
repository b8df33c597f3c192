-- What a cutter shows, and what each call on it promises: the step of its event. Assumes nothing.
use Rattle.std.specs.Prelude.{◌≡◌, ℕ, List, ℤ, Some, None, Option, Result}
use Rattle.std.specs.Option.{option_map}
use Rattle.std.specs.List.{concat}
use Rattle.anystr.specs.Elements.{Boundary}
use Rattle.anystr.specs.Refusals.{coded}
use Rattle.anystr.specs.declared.anystr.AnyStr
use Rattle.anystr.specs.declared.refusal.Refusal.{Refusal}
use Rattle.searchers.specs.Marks.{Span}
use Rattle.searchers.specs.declared.searcher.Searcher
use Rattle.trays.specs.Trays.{Contents}
use Rattle.cuts.specs.Cuts.{Opening, State, at, pieces_left, needed}
use Rattle.cuts.specs.Runs.{Step, next, skip, rest, pour}
use Rattle.cutters.specs.declared.cutter.Cutter.{Cutter}
use Rattle.cutters.specs.declared.piece.Piece.{Piece}
use Rattle.cutters.specs.declared.progress.Progress.{Progress}

-- a piece by its start and its end
abbrev pub span : Piece → Span
span p = (p.start, p.end)

-- the state at a cutter's progress
abbrev pub state_at : Progress → State
state_at p = at p.place p.made p.spent

-- what a cutter on this text, with this searcher and this bound, is opened on
abbrev pub opening_of : {S F C : Type 0} (s : AnyStr.Ghosts S C) (f : Searcher.Ghosts F S C) → S → F → ℤ → Opening
opening_of s f text searcher bound =
    record { marks = f.marks searcher (s.elements text); bytes = concat (s.elements text); bound = bound }

-- a piece lies on boundaries of a text
abbrev pub OnText : List (List ℕ) → Option Piece → Type 0
OnText es None = Unit {0}
OnText es (Some p) = Boundary es p.start × Boundary es p.end

module _ {S F C : Type 0} {s : AnyStr.Ghosts S C} {f : Searcher.Ghosts F S C} where
  -- a cutter's text, and its searcher
  abbrev pub text_of : Cutter S F C s f → S
  text_of c = c.text

  abbrev pub searcher_of : Cutter S F C s f → F
  searcher_of c = c.searcher

  -- what it was opened on
  abbrev pub opening : Cutter S F C s f → Opening
  opening c = opening_of s f (text_of c) (searcher_of c) c.bound

  -- its place, the cuts that it has made, and whether it is spent
  abbrev pub state : Cutter S F C s f → State
  state c = state_at c.progress

  -- the pieces that it has left, in the order in which they come
  abbrev pub left_pieces : Cutter S F C s f → List Span
  left_pieces c = pieces_left (opening c) (state c)

  -- it is on this text, with this searcher and this bound
  pub record IsOn (on_text : S) (by_searcher : F) (to_bound : ℤ) (c : Cutter S F C s f) : Type 0 where
    pub text : c.text ≡ on_text
    pub searcher : c.searcher ≡ by_searcher
    pub bound : c.bound ≡ to_bound

  -- text, searcher and bound are as they were
  pub record SameOpening (c d : Cutter S F C s f) : Type 0 where
    pub text : d.text ≡ c.text
    pub searcher : d.searcher ≡ c.searcher
    pub bound : d.bound ≡ c.bound

  -- a piece lies on boundaries of its text
  abbrev pub PieceOn : Cutter S F C s f → Option Piece → Type 0
  PieceOn c p = OnText (s.elements (text_of c)) p

  -- the bytes of its rest, with those of `to` in place of each mark that is still to be cut
  abbrev pub poured_by : Cutter S F C s f → S → List ℕ
  poured_by c to = needed (opening c) (concat (s.elements to)) (state c)

  -- next's answer on a cutter, and the cutter after it
  abbrev pub Nexts : Cutter S F C s f → Option Piece → Cutter S F C s f → Type 0
  Nexts c r d = Step (opening c) (state c) (next (option_map span r)) (state d)

  -- rest's answer; the cutter stays
  abbrev pub Rests : Cutter S F C s f → Piece → Type 0
  Rests c r = Step (opening c) (state c) (rest (span r)) (state c)

  -- skip's answer, and the cutter after it
  abbrev pub Skips : Cutter S F C s f → ℕ → Result (Unit {0}) Refusal → Cutter S F C s f → Type 0
  Skips c n r d = Step (opening c) (state c) (skip n (coded r)) (state d)

  -- pour's answer, with the tray before it and after it, and the cutter after it
  abbrev pub Pours : {Tray : Type 0} → (Tray → Contents) → Cutter S F C s f → S → Tray → Result (Unit {0}) Refusal
      → Cutter S F C s f → Tray → Type 0
  Pours contents c to tray r d tray' =
      Step (opening c) (state c) (pour (concat (s.elements to)) (contents tray) (coded r) (contents tray')) (state d)

  -- all that a next promises, as one fact: its step, and what stays
  pub record NextStep (c : Cutter S F C s f) (r : Option Piece) (d : Cutter S F C s f) : Type 0 where
    pub step : Nexts c r d
    pub same : SameOpening c d
    pub cut : PieceOn c r
