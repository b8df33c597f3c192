-- What one next changes in what is left to cut and to pour.
use Rattle.std.proofs.Common.{◌≡◌, ℕ, zero, suc, ◌+◌, ◌-◌, ◌<◌, ◌≤◌, Bool, true, false, cond, IsTrue, List, [], ◌∷◌}
use Rattle.std.proofs.Common.{◌++◌, length, take, drop, Some, sym, refl, ap, ◌∙◌, subst, ⊎_elim, append-nil, arith}
use mathlib.Core.Bool.{false≢true}
use Rattle.std.proofs.lemmas.List.{take_rest}
use Rattle.std.proofs.lemmas.Bool.{cases_lt}
use Rattle.searchers.specs.Marks.{Span, Lawful}
use Rattle.cuts.specs.Cuts.{Opening, size, cut_from, State, at, to_cut, pieces_left, between, poured, next_of}
use Rattle.cuts.specs.Cuts.{after_cut, nexts}
use Rattle.cuts.specs.Runs.{Step, next}
use Rattle.cuts.proofs.Greedy.{Greedy, greedy_one}
use Rattle.cuts.proofs.Listed.{greedy_cuts}
use Rattle.cuts.proofs.Found.{marks_from_past}
use Rattle.cuts.proofs.Reach.{none_some}

-- the first of the marks still to be cut, and those after it
pub record First (on : Opening) (made place : ℕ) (m : Span) (ms : List Span) : Type 0 where
  pub is : IsTrue (on.marks m.0 m.1)
  pub from : place ≤ m.0
  pub long : m.0 < m.1
  pub within : m.1 ≤ size on
  pub others : cut_from on (suc made) m.1 ≡ ms

-- the bytes that are still to be poured
abbrev pub to_pour : Opening → List ℕ → State → List ℕ
to_pour on to s = cond s.spent [] (poured on.bytes to s.place (to_cut on s))

-- one next more is a next after the others
pub nexts_more : (on : Opening) (n : ℕ) (s : State) → nexts on (suc n) s ≡ (next_of on (nexts on n s)).1
nexts_more on zero s = refl
nexts_more on (suc n) s = nexts_more on n (next_of on s).1

module _ (on : Opening) (law : Lawful on.marks (size on)) where
  -- what it is that is cut first
  pub first : (made place : ℕ) (m : Span) (ms : List Span) → cut_from on made place ≡ m ∷ ms → First on made place m ms
  first made place m ms e = ⊎_elim
      (λ past.
      let none = marks_from_past on.marks on.bound made place 0 (size on) (omega arith) in
      let z = ap length (sym none ∙ e) in absurd (omega arith))
      (λ within.
      let g : Greedy on.marks on.bound made place (m ∷ ms) (size on) =
      rw e at (greedy_cuts on.bound law made place within) in
      let inside = law.within _ _ g.0.is in
      record {
        is = g.0.is;
        from = g.0.after;
        long = law.nonempty _ _ g.0.is;
        within = inside;
        others = greedy_one on.bound law (suc made) m.1 _ ms (greedy_cuts on.bound law (suc made) m.1 inside) g.2;
      })
      (cases_lt (size on) place)

-- one next on a cutter that is not spent
pub record Nexted (on : Opening) (place made : ℕ) : Type 0 where
  pub end : ℕ
  pub t : State
  pub is : next_of on (at place made false) ≡ (Some (place, end), t)
  pub pieces : pieces_left on (at place made false) ≡ (place, end) ∷ pieces_left on t
  pub made_all : made + length (cut_from on made place) ≡ t.made + length (to_cut on t)
  pub pour : (to : List ℕ)
      → to_pour on to (at place made false)
      ≡ take (end - place) (drop place on.bytes) ++ (cond t.spent [] to ++ to_pour on to t)
  pub ended : t.spent ≡ true → t.place ≡ size on

-- it is so on each cutter that is not spent
pub nexted : (on : Opening) → Lawful on.marks (size on) → (place made : ℕ) → Nexted on place made
nexted on law place made = by (cut_from on made place) refl
  where
    by : (ms : List Span) → cut_from on made place ≡ ms → Nexted on place made
    by [] e = record {
      end = size on;
      t = at (size on) made true;
      is = ap (after_cut (size on) (at place made false)) e;
      pieces = ap (between place (size on)) e;
      made_all = ap (λ (ms : List Span). made + length ms) e;
      pour = λ to. ap (poured on.bytes to place) e ∙ (sym (take_rest on.bytes place) ∙ sym (append-nil _));
      ended = λ _. refl;
    }
    by (m ∷ ms) e =
        let f = first on law made place m ms e in
        record {
          end = m.0;
          t = at m.1 (suc made) false;
          is = ap (after_cut (size on) (at place made false)) e;
          pieces =
              ap (between place (size on)) e
              ∙ ap (λ (ms : List Span). (place, m.0) ∷ between m.1 (size on) ms) (sym f.others);
          made_all = let a = ap length e in let b = ap length f.others in omega arith;
          pour = λ to.
              ap (poured on.bytes to place) e
              ∙ ap (λ (ms : List Span). take (m.0 - place) (drop place on.bytes) ++ (to ++ poured on.bytes to m.1 ms))
              (sym f.others);
          ended = λ q. absurd (false≢true q);
        }

-- what a next that gives a piece changes
pub record Gave (on : Opening) (s : State) (p : Span) (t : State) : Type 0 where
  pub pieces : pieces_left on s ≡ p ∷ pieces_left on t
  pub left : length (pieces_left on s) ≡ suc (length (pieces_left on t))
  pub made_all : s.made + length (to_cut on s) ≡ t.made + length (to_cut on t)
  pub pour : (to : List ℕ)
      → to_pour on to s ≡ take (p.1 - p.0) (drop p.0 on.bytes) ++ (cond t.spent [] to ++ to_pour on to t)
  pub ended : t.spent ≡ true → t.place ≡ size on

-- each next that gives a piece changes that
pub gave : (on : Opening) → Lawful on.marks (size on) → (place made : ℕ) (spent : Bool) (p : Span) (t : State)
    → Step on (at place made spent) (next (Some p)) t → Gave on (at place made spent) p t
gave on law place made true p t h = absurd (none_some p (sym h.0))
gave on law place made false p t h =
    let n = nexted on law place made in
    let same : p ≡ (place, n.end) = let e : Some p ≡ Some (place, n.end) = h.0 ∙ (λ i. (n.is i).0) in cc in
    let then : t ≡ n.t = h.1 ∙ (λ i. (n.is i).1) in
    let here : Gave on (at place made false) (place, n.end) n.t =
    record {
      pieces = n.pieces;
      left = ap length n.pieces;
      made_all = n.made_all;
      pour = n.pour;
      ended = n.ended;
    } in
    subst (λ (u : State). Gave on (at place made false) p u) (sym then)
    (subst (λ (q : Span). Gave on (at place made false) q n.t) (sym same) here)
