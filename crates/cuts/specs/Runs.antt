-- What holds of a cutter after every list of calls, in the words of marks, cuts and pieces. Assumes nothing.
use Rattle.std.specs.Prelude.{◌≡◌, ℕ, zero, suc, ◌+◌, ◌-◌, ◌<◌, ◌≤◌, if◌then◌else◌, IsTrue, ◌⊎◌, nat_le, nat_lt}
use Rattle.std.specs.Prelude.{List, [], ◌∷◌, ◌++◌, length, ℤ, Some, None, Ok, Err, Option, Result}
use Rattle.anystr.specs.declared.refusal.Refusal.TheVariants.{Spent, TooFew}
use Rattle.anystr.specs.Refusals.{code}
use Rattle.searchers.specs.Marks.{Marks, Span}
use Rattle.trays.specs.Trays.{Contents, IsFilled}
use Rattle.cuts.specs.Cuts.{Opening, size, State, at_opening, fewer, poured, next_of, nexts, unless_refused}
use Rattle.cuts.specs.Cuts.{skip_of, pour_of, poured_out}

-- a stretch stands in a list
abbrev pub In : Span → List Span → Type 0
In m [] = ⊥
In m (c ∷ cs) = (m ≡ c) ⊎ In m cs

-- two marks share a byte
abbrev pub Overlap : Span → Span → Type 0
Overlap c m = (c.0 < m.1) × (m.0 < c.1)

-- no earlier cut overlaps the mark
abbrev pub Free : List Span → Span → Type 0
Free cut m = (c : Span) → In c cut → c.0 < m.0 → Overlap c m → ⊥

-- how many cuts begin before `a`
abbrev pub count_before : List Span → ℕ → ℕ
count_before [] a = 0
count_before (c ∷ cs) a = (if nat_lt c.0 a then 1 else 0) + count_before cs a

-- Of the marks that begin before the rest, exactly those are cut that no earlier cut overlaps and whose
-- earlier cuts are fewer than the bound.
pub record CutRule (marks : Marks) (bound : ℤ) (rest : ℕ) (cut : List Span) : Type 0 where
  pub marked : (m : Span) → In m cut → IsTrue (marks m.0 m.1) × (m.0 < rest)
  pub only : (m : Span) → In m cut → Free cut m × IsTrue (fewer (count_before cut m.0) bound)
  pub every : (m : Span) → IsTrue (marks m.0 m.1) → m.0 < rest
      → Free cut m → IsTrue (fewer (count_before cut m.0) bound) → In m cut

-- a piece with the mark that is cut after it
abbrev pub Cut : Type 0
Cut = Span × Span

-- the marks of such a row
abbrev pub marks_of : List Cut → List Span
marks_of [] = []
marks_of (x ∷ xs) = x.1 ∷ marks_of xs

-- Pieces with their marks, perhaps a last piece that has none, and the rest lie end to end from `p` to `len`;
-- after a last piece the rest is empty.
abbrev pub Lie : ℕ → List Cut → Option Span → ℕ → ℕ → Type 0
Lie p [] None rest len = (p ≡ rest) × (rest ≤ len)
Lie p [] (Some piece) rest len = (piece.0 ≡ p) × (p ≤ len) × (piece.1 ≡ len) × (rest ≡ len)
Lie p (x ∷ xs) last rest len =
    (x.0.0 ≡ p) × (p ≤ x.0.1) × (x.0.1 ≡ x.1.0) × (x.1.0 ≤ x.1.1) × Lie x.1.1 xs last rest len

-- the number of pieces, the last among them
abbrev pub count : List Cut → Option Span → ℕ
count row None = length row
count row (Some _) = suc (length row)

-- the piece that stands n-th, from 0
abbrev pub piece : List Cut → Option Span → ℕ → Option Span
piece [] last n = last
piece (x ∷ xs) last zero = Some x.0
piece (x ∷ xs) last (suc n) = piece xs last n

-- a call, with its answer
pub data Event : Type 0 where
  next : Option Span → Event
  skip : ℕ → Result (Unit {0}) (ℕ × ℕ) → Event
  rest : Span → Event
  -- pour `to` into a tray, which stands before the answer as it was and after the answer as it is then
  pour : (to : List ℕ) → Contents → Result (Unit {0}) (ℕ × ℕ) → Contents → Event

-- what each call's contract says of its answer and of the state after it
abbrev pub Step : Opening → State → Event → State → Type 0
Step on s (next r) t = (r ≡ (next_of on s).0) × (t ≡ (next_of on s).1)
Step on s (skip n r) t = (r ≡ skip_of on n s) × (t ≡ unless_refused r (nexts on n s) s)
Step on s (rest r) t = (r ≡ (s.place, size on)) × (t ≡ s)
Step on s (pour to tray r tray') t =
    IsFilled (pour_of on to s) tray tray' r × (t ≡ unless_refused r (poured_out on s) s)

-- a list of calls, the latest first, that leads from one state to another
pub data Run (on : Opening) : State → List Event → State → Type 0 where
  none : {s : State} → Run on s [] s
  more : {s t u : State} {e : Event} {es : List Event} → Run on s es t → Step on t e u → Run on s (e ∷ es) u

-- the pieces given, skipped or poured by a list of calls, the latest call first, of a text with `total` pieces
abbrev pub pieces_done : ℕ → List Event → ℕ
pieces_done total [] = 0
pieces_done total (next None ∷ es) = pieces_done total es
pieces_done total (next (Some _) ∷ es) = suc (pieces_done total es)
pieces_done total (skip n (Ok _) ∷ es) = pieces_done total es + n
pieces_done total (skip n (Err _) ∷ es) = pieces_done total es
pieces_done total (rest _ ∷ es) = pieces_done total es
pieces_done total (pour _ _ (Ok _) _ ∷ es) = total
pieces_done total (pour _ _ (Err _) _ ∷ es) = pieces_done total es

-- each next that gave a piece gave the one that stands there
abbrev pub Given : ℕ → List Event → List Cut → Option Span → Type 0
Given total [] row last = Unit {0}
Given total (next None ∷ es) row last = Given total es row last
Given total (next (Some p) ∷ es) row last = (piece row last (pieces_done total es) ≡ Some p) × Given total es row last
Given total (skip _ _ ∷ es) row last = Given total es row last
Given total (rest _ ∷ es) row last = Given total es row last
Given total (pour _ _ _ _ ∷ es) row last = Given total es row last

-- What one more call answers, where `gone` of `total` pieces are gone, the rest begins at `from`, and `still` is still
-- to be cut. Of a pour that is what its tray gains or why it is refused; what is short of room is said of every tray.
abbrev pub Answers : List ℕ → ℕ → ℕ → ℕ → List Span → Event → Type 0
Answers bytes total gone from still (next None) = total ≤ gone
Answers bytes total gone from still (next (Some _)) = gone < total
Answers bytes total gone from still (skip n r) =
    r ≡ (if nat_le n (total - gone) then Ok tt else Err (code (TooFew (total - gone))))
Answers bytes total gone from still (rest r) = r ≡ (from, length bytes)
Answers bytes total gone from still (pour to tray r tray') =
    IsFilled (if nat_lt gone total then Ok (poured bytes to from still) else Err (code Spent)) tray tray' r

-- what holds after a list of calls
pub record After (on : Opening) (es : List Event) (s : State) : Type 0 where
  -- the marks that the rule cuts to the end of the text
  pub whole : List Span
  pub whole_rule : CutRule on.marks on.bound (size on) whole
  -- in the order in which they stand, each once
  pub whole_lies : (all : List Cut) × (tail : Span) × (whole ≡ marks_of all) × Lie 0 all (Some tail) (size on) (size on)
  -- the pieces that are gone, each with the mark that was cut after it; and the last, which has none
  pub row : List Cut
  pub last : Option Span
  -- the marks that are still to be cut
  pub still : List Span
  pub so_far : whole ≡ marks_of row ++ still
  pub counted : count row last ≡ pieces_done (suc (length whole)) es
  pub given : Given (suc (length whole)) es row last
  pub end_to_end : Lie 0 row last s.place (size on)
  pub rule : CutRule on.marks on.bound s.place (marks_of row)
  -- no other pieces, as many, keep the rule
  pub no_other : (row' : List Cut) (last' : Option Span) (rest' : ℕ) → Lie 0 row' last' rest' (size on)
      → CutRule on.marks on.bound rest' (marks_of row') → count row' last' ≡ count row last
      → (row' ≡ row) × (last' ≡ last) × (rest' ≡ s.place)
  -- what one more call answers
  pub one_more : (e : Event) (t : State) → Step on s e t
      → Answers on.bytes (suc (length whole)) (count row last) s.place still e

-- the law of a cutter: what holds after every list of calls since it was opened
abbrev pub RunsLaw : Opening → Type 0
RunsLaw on = (es : List Event) (s : State) → Run on at_opening es s → After on es s
