-- A cutter's state with the pieces that are gone, and how one piece more, or many, change it. Assumes nothing.
use Rattle.std.proofs.Common.{◌≡◌, ℕ, zero, suc, ◌+◌, ◌≤◌, true, false, List, [], ◌∷◌, ◌++◌, length, Some, None, Option}
use Rattle.std.proofs.Common.{sym, refl, ap, ◌∙◌, subst, append-nil, arith, length-append}
use Rattle.searchers.specs.Marks.{Span, Lawful}
use Rattle.cuts.specs.Cuts.{Opening, size, cut_from, State, at, at_opening, between, pieces_left, next_of, after_cut}
use Rattle.cuts.specs.Cuts.{nexts}
use Rattle.cuts.specs.Runs.{Cut, marks_of, Lie, count, piece}
use Rattle.cuts.proofs.Greedy.{lie_within}
use Rattle.cuts.proofs.Listed.{cuts_after}

-- the marks that are cut in the end
abbrev pub whole_of : Opening → List Span
whole_of on = cut_from on 0 0

-- a state, with the pieces that are gone
pub data Core (on : Opening) : State → List Cut → Option Span → Type 0 where
  ahead : {p m : ℕ} {row : List Cut} → Lie 0 row None p (size on) → whole_of on ≡ marks_of row ++ cut_from on m p
      → Core on (at p m false) row None
  shut : {m : ℕ} {row : List Cut} {end : Span} → Lie 0 row (Some end) (size on) (size on) → whole_of on ≡ marks_of row
      → Core on (at (size on) m true) row (Some end)

-- each piece that stands in one row stands at the same place in the other
abbrev pub Keeps : List Cut → Option Span → List Cut → Option Span → Type 0
Keeps row last row' last' = (n : ℕ) (p : Span) → piece row last n ≡ Some p → piece row' last' n ≡ Some p

-- there is a piece or there is none
pub none_some : (p : Span) → None ≡ Some p → ⊥
none_some p e = let z : ◌≡◌ {A = ℕ} 0 1 = cc in omega arith

-- a piece more at the end leaves the others in their places
keeps_snoc : (row : List Cut) (x : Cut) → Keeps row None (row ++ (x ∷ [])) None
keeps_snoc [] x n p h = absurd (none_some p h)
keeps_snoc (y ∷ ys) x zero p h = h
keeps_snoc (y ∷ ys) x (suc n) p h = keeps_snoc ys x n p h

-- and so does a last piece
keeps_last : (row : List Cut) (end : Span) → Keeps row None row (Some end)
keeps_last [] end n p h = absurd (none_some p h)
keeps_last (y ∷ ys) end zero p h = h
keeps_last (y ∷ ys) end (suc n) p h = keeps_last ys end n p h

-- the piece more stands after the others
here_snoc : (row : List Cut) (x : Cut) → piece (row ++ (x ∷ [])) None (length row) ≡ Some x.0
here_snoc [] x = refl
here_snoc (y ∷ ys) x = here_snoc ys x

-- and so does the last piece
here_last : (row : List Cut) (end : Span) → piece row (Some end) (length row) ≡ Some end
here_last [] end = refl
here_last (y ∷ ys) end = here_last ys end

-- its mark is the first of those that were still to be cut
marks_snoc : (row : List Cut) (x : Cut) (ms : List Span) → marks_of (row ++ (x ∷ [])) ++ ms ≡ marks_of row ++ (x.1 ∷ ms)
marks_snoc [] x ms = refl
marks_snoc (y ∷ ys) x ms = ap {B = List Span} (λ r. y.1 ∷ r) (marks_snoc ys x ms)

-- each piece of the row has a mark
pub length-marks_of : (row : List Cut) → length (marks_of row) ≡ length row
length-marks_of [] = refl
length-marks_of (x ∷ xs) = ap suc (length-marks_of xs)

-- there is one piece more than cuts
pub length-between : (place len : ℕ) (ms : List Span) → length (between place len ms) ≡ suc (length ms)
length-between place len [] = refl
length-between place len (m ∷ ms) = ap suc (length-between m.1 len ms)

-- with the bytes up to the end as a last piece a row lies end to end
lie_last : (q p len : ℕ) (row : List Cut) → Lie q row None p len → Lie q row (Some (p, len)) len len
lie_last q p len [] l = (sym l.0, omega arith, refl, refl)
lie_last q p len (x ∷ xs) l = (l.0, l.1, l.2, l.3, lie_last x.1.1 p len xs l.4)

-- and so it does with a piece more and its mark
lie_snoc : (q p len : ℕ) (row : List Cut) (c : Span) → Lie q row None p len → p ≤ c.0 → c.0 ≤ c.1 → c.1 ≤ len
    → Lie q (row ++ (((p, c.0), c) ∷ [])) None c.1 len
lie_snoc q p len [] c l from long within = (sym l.0, omega arith, refl, long, (refl, within))
lie_snoc q p len (x ∷ xs) c l from long within = (l.0, l.1, l.2, l.3, lie_snoc x.1.1 p len xs c l.4 from long within)

-- one piece more
pub record One (on : Opening) (p m : ℕ) (row : List Cut) : Type 0 where
  pub t : State
  pub row' : List Cut
  pub last' : Option Span
  pub gave : Span
  pub is : next_of on (at p m false) ≡ (Some gave, t)
  pub core : Core on t row' last'
  pub more : count row' last' ≡ suc (length row)
  pub keeps : Keeps row None row' last'
  pub here : piece row' last' (length row) ≡ Some gave

-- n pieces more
pub record Many (on : Opening) (n : ℕ) (s : State) (row : List Cut) (last : Option Span) : Type 0 where
  pub row' : List Cut
  pub last' : Option Span
  pub core : Core on (nexts on n s) row' last'
  pub more : count row' last' ≡ count row last + n
  pub keeps : Keeps row last row' last'

-- how many pieces are left
pub left-ahead : (whole : List Span) (row : List Cut) (ms : List Span) → whole ≡ marks_of row ++ ms
    → length row + suc (length ms) ≡ suc (length whole)
left-ahead whole row ms w = omega (arith, ap length w ∙ length-append (marks_of row) ms, length-marks_of row)

-- where the last piece is gone none is left
pub left-shut : (whole : List Span) (row : List Cut) → whole ≡ marks_of row → length row ≡ length whole
left-shut whole row w = omega (arith, ap length w, length-marks_of row)

-- those that are gone and those that are left are all
pub left : {on : Opening} {s : State} {row : List Cut} {last : Option Span}
    → Core on s row last → count row last + length (pieces_left on s) ≡ suc (length (whole_of on))
left {on} {row = row} (ahead {p = p} {m = m} l w) =
    omega (arith, length-between p (size on) (cut_from on m p), left-ahead _ row _ w)
left {row = row} (shut l w) = omega (arith, left-shut _ row w)

module _ (on : Opening) (law : Lawful on.marks (size on)) where
  -- a next that is not the last takes one piece more
  one_by : (p m : ℕ) (row : List Cut) (ms : List Span) → cut_from on m p ≡ ms → Lie 0 row None p (size on)
      → whole_of on ≡ marks_of row ++ cut_from on m p → One on p m row
  one_by p m row [] e l w = record {
    t = at (size on) m true;
    row' = row;
    last' = Some (p, (size on));
    gave = (p, (size on));
    is = ap (after_cut (size on) (at p m false)) e;
    core =
        shut (lie_last 0 p (size on) row l)
        (w ∙ ap (λ (ms : List Span). marks_of row ++ ms) e ∙ append-nil (marks_of row));
    more = refl;
    keeps = keeps_last row (p, (size on));
    here = here_last row (p, (size on));
  }
  one_by p m row (c ∷ cs) e l w =
      let a = cuts_after on.bound law m p c cs (lie_within (size on) 0 row p l) e in
      let x : Cut = ((p, c.0), c) in
      record {
        t = at c.1 (suc m) false;
        row' = row ++ (x ∷ []);
        last' = None;
        gave = (p, c.0);
        is = ap (after_cut (size on) (at p m false)) e;
        core =
            ahead (lie_snoc 0 p (size on) row c l a.1 a.2 a.0)
            (w
            ∙ ap (λ (ms : List Span). marks_of row ++ ms) (e ∙ ap {B = List Span} (λ r. c ∷ r) (sym a.3))
            ∙ sym (marks_snoc row x _));
        more = length-append row (x ∷ []) ∙ omega arith;
        keeps = keeps_snoc row x;
        here = here_snoc row x;
      }

  -- the same, whatever is still to be cut
  pub one : {p m : ℕ} {row : List Cut} → Lie 0 row None p (size on) → whole_of on ≡ marks_of row ++ cut_from on m p
      → One on p m row
  one {p} {m} {row} l w = one_by p m row (cut_from on m p) refl l w

  -- so many nexts take so many pieces more, where so many are left
  pub many : (n : ℕ) {s : State} {row : List Cut} {last : Option Span} → Core on s row last
      → count row last + n ≤ suc (length (whole_of on)) → Many on n s row last
  many zero {row = row} {last = last} k le =
      record { row' = row; last' = last; core = k; more = omega arith; keeps = λ n p h. h }
  many (suc n) (ahead l w) le =
      let o = one l w in
      let r = many n o.core (omega (arith, o.more)) in
      record {
        row' = r.row';
        last' = r.last';
        core = subst (λ (u : Option Span × State). Core on (nexts on n u.1) r.row' r.last') (sym o.is) r.core;
        more = omega (arith, o.more, r.more);
        keeps = λ i q h. r.keeps i q (o.keeps i q h);
      }
  many (suc n) {row = row} (shut l w) le = absurd (omega (arith, left-shut _ row w))

  -- at opening no piece is gone
  pub begins : Core on at_opening [] None
  begins = ahead (refl, omega arith) refl

  -- where all the pieces are gone, the cutter is spent
  ends : {s : State} {row : List Cut} {last : Option Span} → Core on s row last
      → count row last ≡ suc (length (whole_of on))
      → (all : List Cut) × (tail : Span) × (whole_of on ≡ marks_of all) × Lie 0 all (Some tail) (size on) (size on)
  ends {row = row} (ahead l w) n = absurd (omega (arith, left-ahead _ row _ w))
  ends {row = row} (shut {end = tail} l w) n = (row, tail, w, l)

  -- so all pieces lie end to end
  pub to_the_end : (all : List Cut) × (tail : Span) × (whole_of on ≡ marks_of all)
      × Lie 0 all (Some tail) (size on) (size on)
  to_the_end = let r = many (suc (length (whole_of on))) begins (omega arith) in ends r.core (omega (arith, r.more))

  -- to pour is to go on to the end
  pub pour_ends : (p m : ℕ) (ms : List Span) → p ≤ (size on) → cut_from on m p ≡ ms
      → nexts on (suc (length ms)) (at p m false) ≡ at (size on) (m + length ms) true
  pour_ends p m [] within e =
      let z : m ≡ m + 0 = omega arith in
      ap (λ (ms : List Span). (after_cut (size on) (at p m false) ms).1) e ∙ (λ i. at (size on) (z i) true)
  pour_ends p m (c ∷ cs) within e =
      let a = cuts_after on.bound law m p c cs within e in
      let z : suc m + length cs ≡ m + suc (length cs) = omega arith in
      ap (λ (ms : List Span). nexts on (suc (length cs)) (after_cut (size on) (at p m false) ms).1) e
      ∙ pour_ends c.1 (suc m) cs a.0 a.3
      ∙ (λ i. at (size on) (z i) true)
