-- What a cutter's calls give, as functions that compute. Assumes nothing.
use Rattle.std.specs.Prelude.{ℕ, zero, suc, ◌+◌, ◌-◌, Bool, true, false, if◌then◌else◌, ◌&&◌, nat_le, nat_lt}
use Rattle.std.specs.Prelude.{List, [], ◌∷◌, ◌++◌, length, take, drop, ℤ, pos, negsuc, Some, None, Ok, Err, Option}
use Rattle.std.specs.Prelude.{Result}
use Rattle.std.specs.List.{sum_by}
use Rattle.anystr.specs.declared.refusal.Refusal.TheVariants.{Spent, TooFew}
use Rattle.anystr.specs.Refusals.{code}
use Rattle.searchers.specs.Marks.{Marks, Span}

-- the mark that begins at `a`, if one of the `n` ends from `e` on makes one
abbrev pub mark_at : Marks → ℕ → ℕ → ℕ → List Span
mark_at marks a e zero = []
mark_at marks a e (suc n) = if marks a e then (a, e) ∷ [] else mark_at marks a (suc e) n

-- the marks that begin at `a` or after it, up to `n` bytes on, in the order of their starts
abbrev pub marks_from : Marks → ℕ → ℕ → List Span
marks_from marks a zero = []
marks_from marks a (suc n) = mark_at marks a (suc a) (suc n) ++ marks_from marks (suc a) n

-- every mark of a text of `len` bytes, in the order of their starts
abbrev pub all_marks : Marks → ℕ → List Span
all_marks marks len = marks_from marks 0 len

-- whether n cuts are fewer than the bound; any number is fewer than a negative one
abbrev pub fewer : ℕ → ℤ → Bool
fewer n (pos b) = nat_lt n b
fewer n (negsuc _) = true

-- of marks in the order of their starts, those that are cut from `place` on, after `made` cuts
abbrev pub cuts : ℤ → ℕ → ℕ → List Span → List Span
cuts bound made place [] = []
cuts bound made place (m ∷ ms) =
    if nat_le place m.0 && fewer made bound then m ∷ cuts bound (suc made) m.1 ms else cuts bound made place ms

-- the pieces that cuts leave of the bytes from `place` to `len`
abbrev pub between : ℕ → ℕ → List Span → List Span
between place len [] = (place, len) ∷ []
between place len (m ∷ ms) = (place, m.0) ∷ between m.1 len ms

-- the bytes from `place` on, with `to` in place of each cut
abbrev pub poured : List ℕ → List ℕ → ℕ → List Span → List ℕ
poured bytes to place [] = drop place bytes
poured bytes to place (m ∷ ms) = take (m.0 - place) (drop place bytes) ++ (to ++ poured bytes to m.1 ms)

-- the bytes that cuts take together
abbrev pub cut_bytes : List Span → ℕ
cut_bytes ms = sum_by (λ m. m.1 - m.0) ms

-- what a cutter was opened on: the marks in the text, its bytes, and the bound of the cuts
pub record Opening : Type 0 where
  pub marks : Marks
  pub bytes : List ℕ
  pub bound : ℤ

-- a cutter's place, the cuts that it has made, and whether it is spent
pub record State : Type 0 where
  pub place : ℕ
  pub made : ℕ
  pub spent : Bool

-- the state at a place, after so many cuts, spent or not
abbrev pub at : ℕ → ℕ → Bool → State
at p m s = record { place = p; made = m; spent = s }

-- the state at opening
abbrev pub at_opening : State
at_opening = at 0 0 false

-- the number of bytes
abbrev pub size : Opening → ℕ
size on = length on.bytes

-- the marks that are cut from `place` on, after `made` cuts
abbrev pub cut_from : Opening → ℕ → ℕ → List Span
cut_from on made place = cuts on.bound made place (all_marks on.marks (size on))

-- the marks that are still to be cut
abbrev pub to_cut : Opening → State → List Span
to_cut on s = if s.spent then [] else cut_from on s.made s.place

-- the pieces that are left
abbrev pub pieces_left : Opening → State → List Span
pieces_left on s = if s.spent then [] else between s.place (size on) (to_cut on s)

-- the next piece, where these marks are still to be cut, and the state after it
abbrev pub after_cut : ℕ → State → List Span → Option Span × State
after_cut len s [] = (Some (s.place, len), at len s.made true)
after_cut len s (m ∷ ms) = (Some (s.place, m.0), at m.1 (suc s.made) false)

-- next: what it gives, and the state after it
abbrev pub next_of : Opening → State → Option Span × State
next_of on s = if s.spent then (None, s) else after_cut (size on) s (to_cut on s)

-- the state after n nexts
abbrev pub nexts : Opening → ℕ → State → State
nexts on zero s = s
nexts on (suc n) s = nexts on n (next_of on s).1

-- the state after a call: a refused one leaves it
abbrev pub unless_refused : {X : Type 0} → Result X (ℕ × ℕ) → State → State → State
unless_refused (Ok _) after s = after
unless_refused (Err _) after s = s

-- skip n: it passes where so many pieces are left, and is else refused with their number
abbrev pub skip_of : Opening → ℕ → State → Result (Unit {0}) (ℕ × ℕ)
skip_of on n s =
    if nat_le n (length (pieces_left on s)) then Ok tt else Err (code (TooFew (length (pieces_left on s))))

-- the bytes from the place on, with `to` in place of each mark that is still to be cut
abbrev pub needed : Opening → List ℕ → State → List ℕ
needed on to s = poured on.bytes to s.place (to_cut on s)

-- pour: the bytes that it appends; on a spent cutter it is refused
abbrev pub pour_of : Opening → List ℕ → State → Result (List ℕ) (ℕ × ℕ)
pour_of on to s = if s.spent then Err (code Spent) else Ok (needed on to s)

-- the state after a pour
abbrev pub poured_out : Opening → State → State
poured_out on s = at (size on) (s.made + length (to_cut on s)) true
