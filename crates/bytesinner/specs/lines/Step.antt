-- The next line is the first of the lines that are left. Assumes nothing.
use Rattle.std.specs.Prelude.{if◌then◌else◌}
use Rattle.std.proofs.Common.{◌≡◌, ℕ, suc, ◌<◌, ◌≤◌, Bool, true, false, ltb, List, [], ◌∷◌, Some, Option, sym, refl, ap}
use Rattle.std.proofs.Common.{◌∙◌, subst, arith}
use Rattle.std.proofs.lemmas.Bool.{lt-ltb, le-ltb, ltb-true, ltb-false, cond_both}
use Rattle.searchers.specs.Marks.{Span, Lawful}
use Rattle.cuts.specs.Cuts.{Opening, size, State, at, cut_from, between, next_of, after_cut}
use Rattle.cuts.proofs.Found.{marks_from_past}
use Rattle.cuts.proofs.Left.{first}
use Rattle.cuts.proofs.Yielding.{GivesFirst}
use Rattle.bytesinner.specs.lines.Lines.{filled_pieces, start_or, with_ends, lines_from, lines_left, line_of, next_line}

-- a piece before others is a line
pub filled_pieces-cons : (p : Span) (q len : ℕ) (ms : List Span)
    → filled_pieces (p ∷ between q len ms) ≡ p ∷ filled_pieces (between q len ms)
filled_pieces-cons p q len [] = refl
filled_pieces-cons p q len (m ∷ ms) = refl

-- lines begin where their pieces do
pub starts : (q len : ℕ) (ms : List Span) → q ≤ len → start_or len (filled_pieces (between q len ms)) ≡ q
starts q len [] le =
    cond_both (ltb q len) ((q, len) ∷ []) [] (λ (ps : List Span). start_or len ps ≡ q)
    (λ _. refl)
    (λ no. omega (arith, ltb-false q len no))
starts q len (m ∷ ms) le = ap (start_or len) (filled_pieces-cons (q, m.0) m.1 len ms)

-- a last piece that is not empty is a line, and an empty one is none
one_line : (a e : ℕ) → a < e → filled_pieces ((a, e) ∷ []) ≡ (a, e) ∷ []
one_line a e lt = rw (lt-ltb a e lt) refl

no_line : (a e : ℕ) → e ≤ a → filled_pieces ((a, e) ∷ []) ≡ []
no_line a e le = rw (le-ltb a e le) refl

module _ (keep : Bool) (len : ℕ) where
  -- lines, with their ends where these are kept
  abbrev as_kept : List Span → List Span
  as_kept ls = if keep then with_ends len ls else ls

-- the lines that begin with this one, by the start of the others
lines_cons : (keep : Bool) (len a e place : ℕ) (ls : List Span) → start_or len ls ≡ place
    → as_kept keep len ((a, e) ∷ ls) ≡ (a, if keep then place else e) ∷ as_kept keep len ls
lines_cons true len a e place ls is = ap (λ (k : ℕ). (a, k) ∷ with_ends len ls) is
lines_cons false len a e place ls is = refl

no_lines : (keep : Bool) (len : ℕ) → lines_from keep len [] ≡ []
no_lines true len = refl
no_lines false len = refl

module _ (on : Opening) (law : Lawful on.marks (size on)) (keep : Bool) where
  -- the lines of the pieces between these marks
  abbrev lines_between : ℕ → List Span → List Span
  lines_between place ms = lines_from keep (size on) (between place (size on) ms)

  -- past the end of the text no line is left
  none_left : (place made : ℕ) (spent : Bool) → size on ≤ place → lines_left on keep (at place made spent) ≡ []
  none_left place made true past = no_lines keep (size on)
  none_left place made false past =
      let no_cut = marks_from_past on.marks on.bound made place 0 (size on) (omega arith) in
      ap (lines_between place) no_cut
      ∙ ap (as_kept keep (size on)) (no_line place (size on) past) ∙ no_lines keep (size on)

  -- what is given, with the state after it, is the first of the lines that are left
  abbrev LineFirst : State → Option Span × State → Type 0
  LineFirst = GivesFirst (lines_left on keep)

  lined_last : (place made : ℕ) → place < size on → cut_from on made place ≡ []
      → LineFirst (at place made false) (line_of keep (Some (place, size on), at (size on) made true))
  lined_last place made lt e =
      ap (lines_between place) e
      ∙ ap (as_kept keep (size on)) (one_line place (size on) lt)
      ∙ lines_cons keep (size on) place (size on) (size on) [] refl

  lined_cut : (place made : ℕ) (m : Span) (ms : List Span) → cut_from on made place ≡ m ∷ ms
      → LineFirst (at place made false) (line_of keep (Some (place, m.0), at m.1 (suc made) false))
  lined_cut place made m ms e =
      let f = first on law made place m ms e in
      let others : List Span = filled_pieces (between m.1 (size on) ms) in
      let line : Span = (place, if keep then m.1 else m.0) in
      ap (lines_between place) e
      ∙ ap (as_kept keep (size on)) (filled_pieces-cons (place, m.0) m.1 (size on) ms)
      ∙ lines_cons keep (size on) place m.0 m.1 others (starts m.1 (size on) ms f.within)
      ∙ ap (λ (cs : List Span). line ∷ lines_between m.1 cs) (sym f.others)

  -- a cutter's next makes a line where the rest is not empty
  lined : (place made : ℕ) (spent : Bool) → place < size on
      → LineFirst (at place made spent) (line_of keep (next_of on (at place made spent)))
  lined place made true lt = (no_lines keep (size on), no_lines keep (size on))
  lined place made false lt = by (cut_from on made place) refl
    where
      s : State
      s = at place made false

      cut : List Span → Option Span × State
      cut ms = line_of keep (after_cut (size on) s ms)

      by : (ms : List Span) → cut_from on made place ≡ ms → LineFirst s (cut (cut_from on made place))
      by [] e = subst (λ (ms : List Span). LineFirst s (cut ms)) (sym e) (lined_last place made lt e)
      by (m ∷ ms) e = subst (λ (ms : List Span). LineFirst s (cut ms)) (sym e) (lined_cut place made m ms e)

  -- the next line is the first of those that are left
  pub line_yields : (place made : ℕ) (spent : Bool)
      → LineFirst (at place made spent) (next_line on keep (at place made spent))
  line_yields place made spent =
      cond_both (ltb place (size on)) _ _ (LineFirst (at place made spent))
      (λ lt. lined place made spent (ltb-true place (size on) lt))
      (λ past. let none = none_left place made spent (ltb-false place (size on) past) in (none, none))
