-- The next run is the first of the runs that are left. Assumes nothing.
use Rattle.std.specs.Prelude.{◌≡◌, ℕ, suc, ◌+◌, ◌-◌, ◌≤◌, true, List, [], ◌∷◌, ◌++◌, length, drop, Option, nat_lt}
use Rattle.std.specs.Iterator.{YieldsFirstBy, item_count}
use Rattle.std.specs.List.{concat}
use Rattle.std.proofs.Common.{◌∙◌, ap, sym, refl, arith}
use Rattle.std.proofs.lemmas.Bool.{cond_both, le-ltb}
use Rattle.std.proofs.lemmas.List.{drop-drop}
use Rattle.anystr.specs.Limits.{most_bytes}
use Rattle.anystr.specs.declared.anystr.AnyStr
use Rattle.searchers.specs.Marks.{Span}
use Rattle.cuts.proofs.Yielding.{GivesFirst, seen_yields}
use Rattle.cutters.specs.Calls.{span}
use Rattle.cutters.specs.pieces.Sources.{CountsDown}
use Rattle.cutters.specs.declared.piece.Piece.{Piece}
use Rattle.bytesinner.specs.words.Words.{is_space, run, runs_from, runs_left, first_run, next_run}
use Rattle.bytesinner.specs.words.Few.{runs_left-few}
use Rattle.bytesinner.specs.words.Runs.{bytes, left_runs, RunStep}
use Rattle.bytesinner.specs.declared.words.runs.Runs.{Runs}

-- a stretch without a byte is no run
pub no_run : (p : ℕ) → run p p ≡ []
no_run p = rw (le-ltb p p (omega arith)) refl

-- behind the first of some runs stand those from its end on, where these bytes stand from `place` on
abbrev IsFromEnd : ℕ → List ℕ → List Span → Type 0
IsFromEnd place bs [] = Unit {0}
IsFromEnd place bs (r ∷ rs) = (place ≤ r.1) × (runs_from r.1 r.1 (drop (r.1 - place) bs) ≡ rs)

from_end : (from place : ℕ) (bs : List ℕ) → IsFromEnd place bs (runs_from from place bs)
from_end from place [] =
    let z : place - place ≡ 0 = omega arith in
    cond_both (nat_lt from place) ((from, place) ∷ []) [] (IsFromEnd place [])
    (λ _. (omega arith, ap (λ n. runs_from place place (drop n [])) z ∙ no_run place))
    (λ _. tt)
from_end from place (b ∷ bs) =
    cond_both (is_space b) _ _ (IsFromEnd place (b ∷ bs))
    (λ is. cond_both (nat_lt from place) ((from, place) ∷ []) [] (λ rs. IsFromEnd place (b ∷ bs) (rs ++ more))
    (λ _. (omega arith, here is))
    (λ _. further more (from_end (suc place) (suc place) bs)))
    (λ _. further (runs_from from (suc place) bs) (from_end from (suc place) bs))
  where
    more : List Span
    more = runs_from (suc place) (suc place) bs

    here : is_space b ≡ true → runs_from place place (drop (place - place) (b ∷ bs)) ≡ more
    here is =
        let z : place - place ≡ 0 = omega arith in
        ap (λ n. runs_from place place (drop n (b ∷ bs))) z
        ∙ rw is (ap (λ rs. rs ++ more) (no_run place))

    further : (rs : List Span) → IsFromEnd (suc place) bs rs → IsFromEnd place (b ∷ bs) rs
    further [] h = tt
    further (r ∷ rs) h =
        let next : r.1 - place ≡ suc (r.1 - suc place) = omega (arith, h.0) in
        (omega (arith, h.0), ap (λ n. runs_from r.1 r.1 (drop n (b ∷ bs))) next ∙ h.1)

run_yields : (bytes : List ℕ) (place : ℕ) → GivesFirst (runs_left bytes) place (next_run bytes place)
run_yields bytes place = by (runs_left bytes place) refl (from_end place place (drop place bytes))
  where
    by : (rs : List Span) → runs_left bytes place ≡ rs → IsFromEnd place (drop place bytes) rs
        → GivesFirst (runs_left bytes) place (first_run place rs)
    by [] e h = (e, e)
    by (r ∷ rs) e h =
        let z : place + (r.1 - place) ≡ r.1 = omega (arith, h.0) in
        let there = drop-drop (r.1 - place) place bytes ∙ ap (λ n. drop n bytes) z in
        e ∙ ap (λ (ms : List Span). r ∷ ms) (sym h.1 ∙ ap (runs_from r.1 r.1) there)

module _ {S C : Type 0} (s : AnyStr.Ghosts S C) (rs : Runs S C s) where
  -- a next gives the first of the runs that are left
  pub next-yields : (r : Option Piece) (ss : Runs S C s) → RunStep s rs r ss → YieldsFirstBy span (left_runs s) rs r ss
  next-yields r ss n =
      let now = runs_left (bytes s rs) in
      let after : left_runs s ss ≡ now ss.place = λ i. runs_left (concat (s.elements (n.same i))) ss.place in
      seen_yields span (left_runs s) now rs r ss refl after n.step (run_yields (bytes s rs) rs.place)

  -- there are no more than one more than a text can have bytes
  pub counts_down : length (bytes s rs) ≤ most_bytes → CountsDown (item_count (left_runs s) rs) (left_runs s rs)
  counts_down few = record { all = refl; few = runs_left-few rs.place (bytes s rs) few }
