-- The words that begin in some bytes are its runs.
use Rattle.std.proofs.Common.{◌≡◌, ℕ, suc, ◌+◌, ◌<◌, ◌≤◌, Bool, true, false, List, [], ◌∷◌, ◌++◌, length}
use Rattle.std.proofs.Common.{sym, ap, ⊎_elim, arith, length-append}
use Rattle.std.proofs.lemmas.Bool.{cases_Bool}
use Rattle.searchers.specs.Marks.{Span}
use Rattle.bytesinner.specs.words.Words.{is_space, run, runs, runs_from}
use Rattle.bytesinner.specs.words.Starts.{starts, ends_space}
use Rattle.bytesinner.specs.words.Yields.{no_run}
use Rattle.bytesinner.proofs.words.Scan.{one_run}

-- no more words begin than there are bytes
pub starts-few : (p : Bool) (bs : List ℕ) → starts p bs ≤ length bs
starts-few p [] = omega arith
starts-few true (b ∷ bs) = ⊎_elim
    (λ is. let few = starts-few true bs in rw is (omega (arith, few)))
    (λ is. let few = starts-few false bs in rw is (omega (arith, few)))
    (cases_Bool (is_space b))
starts-few false (b ∷ bs) = let few = starts-few (is_space b) bs in omega arith

-- those in two stretches, one behind the other
pub starts-append : (p : Bool) (xs ys : List ℕ) → starts p (xs ++ ys) ≡ starts p xs + starts (ends_space p xs) ys
starts-append p [] ys = omega arith
starts-append p (x ∷ xs) ys = let more = starts-append (is_space x) xs ys in omega (arith, more)

-- as many runs end at a place or after it as words begin from there on, and one more where one is under way
counted : (place : ℕ) (bs : List ℕ) → (length (runs_from place place bs) ≡ starts true bs)
    × ((from : ℕ) → from < place → length (runs_from from place bs) ≡ suc (starts false bs))
counted place [] = (ap length (no_run place), λ from lt. ap length (one_run from place lt))
counted place (b ∷ bs) =
    let next = counted (suc place) bs in
    let more : List Span = runs_from (suc place) (suc place) bs in (
      ⊎_elim
          (λ is. rw is (omega (arith, length-append (run place place) more, ap length (no_run place), next.0)))
          (λ is. let on = next.1 place (omega arith) in rw is (omega (arith, on)))
          (cases_Bool (is_space b)),
      λ from lt.
          ⊎_elim
          (λ is. rw is (omega (arith, length-append (run from place) more, ap length (one_run from place lt), next.0)))
          (λ is. let on = next.1 from (omega arith) in rw is (omega (arith, on)))
          (cases_Bool (is_space b)),
    )

-- as many words begin in a text as it has runs
pub runs-starts : (bytes : List ℕ) → starts true bytes ≡ length (runs bytes)
runs-starts bytes = sym (counted 0 bytes).0
