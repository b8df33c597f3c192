-- A list of calls with their answers, as a run of the law. Assumes nothing.
use Rattle.std.specs.Prelude.{◌≡◌, ℕ, ◌<◌, ◌≤◌, List, [], ◌∷◌, ◌++◌, All, map, length, take, drop, Some, Ok, Err}
use Rattle.std.specs.Prelude.{Option, Result, slice_index_or, slice_set}
use Rattle.std.specs.Option.{option_map}
use Rattle.std.specs.List.{concat}
use Rattle.anystr.specs.Refusals.{code, coded}
use Rattle.anystr.specs.declared.anystr.AnyStr
use Rattle.anystr.specs.declared.refusal.Refusal.{Refusal}
use Rattle.anystr.specs.declared.refusal.Refusal.TheVariants.{TooSmall}
use Rattle.searchers.specs.declared.searcher.Searcher
use Rattle.trays.specs.Trays.{Contents, empty_tray}
use Rattle.cuts.specs.Cuts.{Opening, State, at_opening}
use Rattle.cuts.specs.Runs.{Event, Step, Run, After, next, skip, rest, pour}
use Rattle.cutters.specs.Calls.{span, opening, state, OnText}
use Rattle.cutters.specs.declared.cutter.Cutter.{Cutter}
use Rattle.cutters.specs.declared.piece.Piece.{Piece}
use Rattle.cutters.specs.declared.play.Call.{Call}
use Rattle.cutters.specs.declared.play.Call.TheVariants.{Next, Skip, Rest, Pour}
use Rattle.cutters.specs.declared.play.Answer.{Answer}
use Rattle.cutters.specs.declared.play.Answer.TheVariants as answer

-- the tray of a list that a pour names; one that is not there holds nothing and has no free byte
abbrev pub tray_at : List Contents → ℕ → Contents
tray_at trays i = slice_index_or trays i (empty_tray [])

-- the pieces of an answer lie on boundaries of a text
abbrev pub AnswerOn : List (List ℕ) → Answer → Type 0
AnswerOn es (answer.Next r) = OnText es r
AnswerOn es (answer.Skip _) = Unit {0}
AnswerOn es (answer.Rest p) = OnText es (Some p)
AnswerOn es (answer.Pour _) = Unit {0}

module _ {S C : Type 0} (s : AnyStr.Ghosts S C) where
  -- the call and its answer are the event; the trays before it and after it, of which a pour changes the one that
  -- it names
  pub data Told : Call S C → Answer → List Contents → Event → List Contents → Type 0 where
    gave : {ts : List Contents} (r : Option Piece) → Told Next (answer.Next r) ts (next (option_map span r)) ts
    skipped : {ts : List Contents} (n : ℕ) (r : Result (Unit {0}) Refusal)
        → Told (Skip n) (answer.Skip r) ts (skip n (coded r)) ts
    rested : {ts : List Contents} (p : Piece) → Told Rest (answer.Rest p) ts (rest (span p)) ts
    poured : {ts : List Contents} (to : S) (i : ℕ) (r : Result (Unit {0}) Refusal) (t : Contents)
        → Told (Pour to i) (answer.Pour r) ts
        (pour (concat (s.elements to)) (tray_at ts i) (coded r) t) (slice_set ts i t)

  -- calls and their answers, in turn, are the events, of which the latest stands first
  pub data Plays : List (Call S C) → List Answer → List Contents → List Event → List Contents → Type 0 where
    none : {ts : List Contents} → Plays [] [] ts [] ts
    more : {cs : List (Call S C)} {rs : List Answer} {ts ts' ts'' : List Contents} {es : List Event}
        {c : Call S C} {a : Answer} {e : Event}
        → Plays cs rs ts es ts' → Told c a ts' e ts'' → Plays (cs ++ c ∷ []) (rs ++ a ∷ []) ts (e ∷ es) ts''

  -- a list of calls: the answers are those of a run since the cutter was opened, of which the law speaks
  pub record Played (on : Opening) (calls : List (Call S C)) (trays : List Contents) (answers : List Answer)
      (trays' : List Contents) : Type 0 where
    pub events : List Event
    pub at_last : State
    pub run : Run on at_opening events at_last
    pub told : Plays calls answers trays events trays'
    pub law : After on events at_last

  -- What play answers, with the trays and the list of answers before it and after it. The answers stand first in their
  -- list, and later entries are as they were. Refused for want of entries, it changes nothing.
  abbrev pub PlaysOut : {Tray : Type 0} → (Tray → Contents) → Opening → List (Call S C)
      → (trays trays' : List Tray) (answers answers' : List Answer) → Result (Unit {0}) Refusal → Type 0
  PlaysOut contents on calls trays trays' answers answers' (Ok _) =
      (length calls ≤ length answers)
      × Played on calls (map contents trays) (take (length calls) answers') (map contents trays')
      × (drop (length calls) answers' ≡ drop (length calls) answers)
  PlaysOut contents on calls trays trays' answers answers' (Err e) =
      (length answers < length calls) × (code e ≡ code (TooSmall (length calls))) × (answers' ≡ answers)
      × (trays' ≡ trays)

  -- the pieces that the answers give lie on boundaries of the text, if the calls were made
  abbrev pub PlaysOn : S → List (Call S C) → List Answer → Result (Unit {0}) Refusal → Type 0
  PlaysOn text calls answers' (Ok _) = All (AnswerOn (s.elements text)) (take (length calls) answers')
  PlaysOn text calls answers' (Err _) = Unit {0}

module _ {S F C : Type 0} {s : AnyStr.Ghosts S C} {f : Searcher.Ghosts F S C} where
  -- the pieces of an answer lie on boundaries of a cutter's text
  abbrev pub AnswersOn : Cutter S F C s f → Answer → Type 0
  AnswersOn c a = AnswerOn (s.elements c.text) a

  -- a pour into the tray of a list that has an index, with the trays before it and after it
  pub record PoursAt {Tray : Type 0} (contents : Tray → Contents) (c : Cutter S F C s f) (to : S) (i : ℕ)
      (trays : List Tray) (r : Result (Unit {0}) Refusal) (d : Cutter S F C s f) (trays' : List Tray) : Type 0 where
    pub tray' : Contents
    pub others : map contents trays' ≡ slice_set (map contents trays) i tray'
    pub step : Step (opening c) (state c)
        (pour (concat (s.elements to)) (tray_at (map contents trays) i) (coded r) tray') (state d)

  -- one call, with the trays before it and after it: its answer is that of a step
  abbrev pub Answered : {Tray : Type 0} → (Tray → Contents) → Cutter S F C s f → Call S C → List Tray → Answer
      → Cutter S F C s f → List Tray → Type 0
  Answered contents c call trays a d trays' =
      (e : Event) × Told s call a (map contents trays) e (map contents trays') × Step (opening c) (state c) e (state d)
