-- How many runs there can be. Assumes nothing.
use Rattle.std.specs.Prelude.{ℕ, suc, ◌≤◌, List, [], ◌∷◌, length, drop, nat_lt}
use Rattle.std.proofs.Common.{arith, length-drop, length-append}
use Rattle.std.proofs.lemmas.Bool.{cond_both}
use Rattle.anystr.specs.Limits.{most_bytes}
use Rattle.searchers.specs.Marks.{Span}
use Rattle.bytesinner.specs.words.Words.{is_space, run, runs_from, runs_left}

-- a stretch is one run at most
run-few : (a e : ℕ) → length (run a e) ≤ 1
run-few a e =
    cond_both (nat_lt a e) ((a, e) ∷ []) [] (λ (ms : List Span). length ms ≤ 1) (λ _. omega arith) (λ _. omega arith)

-- there is at most one run more than bytes
runs_from-few : (from place : ℕ) (bs : List ℕ) → length (runs_from from place bs) ≤ suc (length bs)
runs_from-few from place [] = omega (arith, run-few from place)
runs_from-few from place (b ∷ bs) =
    let more : List Span = runs_from (suc place) (suc place) bs in
    cond_both (is_space b) _ _ (λ (ms : List Span). length ms ≤ suc (suc (length bs)))
    (λ _.
    let few = runs_from-few (suc place) (suc place) bs in
    omega (arith, length-append (run from place) more, run-few from place, few))
    (λ _. omega (arith, runs_from-few from (suc place) bs))

-- no more runs are left than a text can have
pub runs_left-few : (place : ℕ) (bytes : List ℕ) → length bytes ≤ most_bytes
    → length (runs_left bytes place) ≤ suc most_bytes
runs_left-few place bytes few = omega (arith, runs_from-few place place (drop place bytes), length-drop place bytes)
