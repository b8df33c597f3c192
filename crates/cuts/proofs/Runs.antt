-- What holds of a cutter after every list of calls. Assumes nothing.
use Rattle.std.proofs.Common.{◌≡◌, ℕ, suc, ◌+◌, ◌≤◌, Bool, true, false, List, [], ◌∷◌, ◌++◌, length, Some, None, Ok}
use Rattle.std.proofs.Common.{Err, Option, Result, sym, refl, ap, ◌∙◌, subst, append-nil, nat_lt, nat_le, leb-true}
use Rattle.std.proofs.Common.{arith}
use Rattle.std.specs.Prelude.{if◌then◌else◌}
use Rattle.std.proofs.lemmas.Bool.{lt-ltb, le-ltb}
use Rattle.anystr.specs.declared.refusal.Refusal.TheVariants.{TooFew}
use Rattle.anystr.specs.Refusals.{code}
use Rattle.searchers.specs.Marks.{Span, Lawful}
use Rattle.cuts.specs.Cuts.{Opening, size, cut_from, State, at, at_opening, to_cut, pieces_left}
use Rattle.cuts.specs.Runs.{Cut, marks_of, Lie, count, piece, Event, next, skip, rest, pour, Step, Run, none, more}
use Rattle.cuts.specs.Runs.{pieces_done, Given, Answers, RunsLaw}
use Rattle.cuts.proofs.Greedy.{Greedy, lie_within, greedy_rule, rule-greedy_0, rows_one, greedy_front}
use Rattle.cuts.proofs.Listed.{greedy_cuts}
use Rattle.cuts.proofs.Reach.{whole_of, Core, ahead, shut, Keeps, none_some, one, left-ahead, left-shut, left, many}
use Rattle.cuts.proofs.Reach.{begins, to_the_end, pour_ends}

-- the number of pieces
abbrev total_of : Opening → ℕ
total_of on = suc (length (whole_of on))

-- what is known after a list of calls: the pieces that are gone
record Reached (on : Opening) (es : List Event) (s : State) : Type 0 where
  row : List Cut
  last : Option Span
  core : Core on s row last
  counted : count row last ≡ pieces_done (total_of on) es
  given : Given (total_of on) es row last

-- pieces that were given stay given when more are gone
given-keeps : (total : ℕ) (es : List Event) (row : List Cut) (last : Option Span) (row' : List Cut)
    (last' : Option Span) → Keeps row last row' last' → Given total es row last → Given total es row' last'
given-keeps total [] row last row' last' k g = tt
given-keeps total (next None ∷ es) row last row' last' k g = given-keeps total es row last row' last' k g
given-keeps total (next (Some p) ∷ es) row last row' last' k g =
    (k (pieces_done total es) p g.0, given-keeps total es row last row' last' k g.1)
given-keeps total (skip _ _ ∷ es) row last row' last' k g = given-keeps total es row last row' last' k g
given-keeps total (rest _ ∷ es) row last row' last' k g = given-keeps total es row last row' last' k g
given-keeps total (pour _ _ _ _ ∷ es) row last row' last' k g = given-keeps total es row last row' last' k g

-- a call that passes where a test holds
passed : (b : Bool) (c : ℕ × ℕ) → ◌≡◌ {A = Result (Unit {0}) (ℕ × ℕ)} (Ok tt) (if b then Ok tt else Err c) → b ≡ true
passed true c h = refl
passed false c h = cc

module _ {on : Opening} where
  -- the state after a call is one of which it is known what is gone
  comes : (es : List Event) {s t : State} {row : List Cut} {last : Option Span} → t ≡ s → Core on s row last
      → count row last ≡ pieces_done (total_of on) es → Given (total_of on) es row last → Reached on es t
  comes es {row = row} {last = last} e k n g =
      record {
        row = row;
        last = last;
        core = subst (λ (u : State). Core on u row last) (sym e) k;
        counted = n;
        given = g;
      }

  -- the marks of the pieces that are gone, and those still to be cut, are all that are cut
  so_far : {s : State} {row : List Cut} {last : Option Span} → Core on s row last
      → whole_of on ≡ marks_of row ++ to_cut on s
  so_far (ahead l w) = w
  so_far {row = row} (shut l w) = w ∙ sym (append-nil (marks_of row))

  -- the pieces that are gone lie end to end, up to the place
  lies : {s : State} {row : List Cut} {last : Option Span} → Core on s row last → Lie 0 row last s.place (size on)
  lies (ahead l w) = l
  lies (shut l w) = l

module _ (on : Opening) (law : Lawful on.marks (size on)) where
  -- all cuts are greedy
  whole-greedy : Greedy on.marks on.bound 0 0 (whole_of on) (size on)
  whole-greedy = greedy_cuts on.bound law 0 0 (omega arith)

  -- and so are those that are made
  greedy : {s : State} {row : List Cut} {last : Option Span} → Core on s row last
      → Greedy on.marks on.bound 0 0 (marks_of row) s.place
  greedy {row = row} (ahead {p} {m} l w) =
      greedy_front on.bound law 0 0 row (cut_from on m p) p l (rw w at whole-greedy)
  greedy (shut l w) = rw w at whole-greedy

  -- one call more
  step : (es : List Event) (s t : State) {row : List Cut} {last : Option Span} → Core on s row last
      → count row last ≡ pieces_done (total_of on) es → Given (total_of on) es row last
      → (e : Event) → Step on s e t → Reached on (e ∷ es) t
  step es s t (ahead l w) n g (next None) h =
      let o = one on law l w in absurd (none_some o.gave (h.0 ∙ (λ i. (o.is i).0)))
  step es s t (shut l w) n g (next None) h = comes (next None ∷ es) h.1 (shut l w) n g
  step es s t {row} {last} (ahead l w) n g (next (Some p)) h =
      let o = one on law l w in
      let same : Some o.gave ≡ Some p = sym (h.0 ∙ (λ i. (o.is i).0)) in
      comes (next (Some p) ∷ es) (h.1 ∙ (λ i. (o.is i).1)) o.core (o.more ∙ ap suc n) (
        subst (λ (k : ℕ). piece o.row' o.last' k ≡ Some p) n (o.here ∙ same),
        given-keeps _ es row last o.row' o.last' o.keeps g,
      )
  step es s t (shut l w) n g (next (Some p)) h = absurd (none_some p (sym h.0))
  step es s t {row} {last} k n g (skip m (Ok tt)) h =
      let some : m ≤ length (pieces_left on s) = leb-true _ _ (passed _ _ h.0) in
      let r = many on law m k (omega (arith, left k)) in
      comes (skip m (Ok tt) ∷ es) h.1 r.core (r.more ∙ ap (λ (x : ℕ). x + m) n)
      (given-keeps _ es row last r.row' r.last' r.keeps g)
  step es s t k n g (skip m (Err c)) h = comes (skip m (Err c) ∷ es) h.1 k n g
  step es s t k n g (rest r) h = comes (rest r ∷ es) h.1 k n g
  step es s t {row} {last} (ahead {p} {m} l w) n g (pour to tray (Ok tt) tray') h =
      let ms = cut_from on m p in
      let all : length row + suc (length ms) ≡ total_of on = left-ahead _ row ms w in
      let r = many on law (suc (length ms)) {s = at p m false} (ahead l w) (omega arith) in
      comes (pour to tray (Ok tt) tray' ∷ es)
      (h.1 ∙ sym (pour_ends on law p m ms (lie_within (size on) 0 row p l) refl)) r.core (omega (arith, r.more))
      (given-keeps _ es row last r.row' r.last' r.keeps g)
  step es s t (shut l w) n g (pour to tray (Ok tt) tray') h = let e = h.0.0 in cc
  step es s t k n g (pour to tray (Err c) tray') h = comes (pour to tray (Err c) tray' ∷ es) h.1 k n g

  -- every list of calls
  reached : (es : List Event) (s₀ s : State) → s₀ ≡ at_opening → Run on s₀ es s → Reached on es s
  reached es s₀ s o none = comes [] o (begins on law) refl tt
  reached es s₀ s o (more {t = t} {e = e} {es = es'} run h) =
      let r = reached es' s₀ t o run in step es' t s r.core r.counted r.given e h

  -- what one call more answers
  answers : (s t : State) {row : List Cut} {last : Option Span} → Core on s row last → (e : Event) → Step on s e t
      → Answers on.bytes (total_of on) (count row last) s.place (to_cut on s) e
  answers s t (ahead l w) (next None) h = let o = one on law l w in absurd (none_some o.gave (h.0 ∙ (λ i. (o.is i).0)))
  answers s t {row} (shut l w) (next None) h = omega (arith, left-shut _ row w)
  answers s t {row} (ahead l w) (next (Some _)) h = omega (arith, left-ahead _ row _ w)
  answers s t (shut l w) (next (Some q)) h = absurd (none_some q (sym h.0))
  answers s t k (skip n r) h =
      h.0 ∙ ap (λ (x : ℕ). if nat_le n x then Ok tt else Err (code (TooFew x))) (omega (arith, left k))
  answers s t k (rest r) h = h.0
  answers s t {row} (ahead l w) (pour to tray r tray') h =
      let some : nat_lt (length row) (total_of on) ≡ true = lt-ltb _ _ (omega (arith, left-ahead _ row _ w)) in
      rw some h.0
  answers s t {row} (shut l w) (pour to tray r tray') h =
      let none : nat_lt (suc (length row)) (total_of on) ≡ false = le-ltb _ _ (omega (arith, left-shut _ row w)) in
      rw none h.0

  -- the law of a cutter
  pub runs-law : RunsLaw on
  runs-law es s run =
      let r = reached es at_opening s refl run in
      let g = greedy r.core in
      let l = lies r.core in
      record {
        whole = whole_of on;
        whole_rule = greedy_rule on.bound law _ _ whole-greedy;
        whole_lies = to_the_end on law;
        row = r.row;
        last = r.last;
        still = to_cut on s;
        so_far = so_far r.core;
        counted = r.counted;
        given = r.given;
        end_to_end = l;
        rule = greedy_rule on.bound law (marks_of r.row) s.place g;
        no_other = λ row' last' rest' l' k e.
            rows_one on.bound law 0 0 r.row row' r.last last' s.place rest' l g l'
            (rule-greedy_0 on.bound law row' last' rest' l' k) e;
        one_more = λ e t h. answers s t r.core e h;
      }
