-- The marks that are still to be cut, by what a searcher answers.
use Rattle.std.proofs.Common.{◌≡◌, ℕ, zero, suc, ◌+◌, ◌<◌, ◌≤◌, Bool, true, false, cond, leb, List, [], ◌∷◌, ◌++◌, ℤ}
use Rattle.std.proofs.Common.{Some, length, refl, ap, ◌∙◌, ⊎_elim, arith}
use Rattle.std.proofs.lemmas.Bool.{cond-false, lt-leb, and_left, and_right, cases_lt}
use Rattle.searchers.specs.Marks.{Marks, Span, Lawful, Least, NoneFrom, CutTimes}
use Rattle.cuts.specs.Cuts.{Opening, size, cut_from, mark_at, marks_from, fewer, cuts, at, after_cut, next_of}
use Rattle.cuts.proofs.Greedy.{Few, greedy_one}
use Rattle.cuts.proofs.Listed.{greedy_cuts}

-- with the bound used up nothing is cut
none_cut : (bound : ℤ) (made place : ℕ) (ms : List Span) → fewer made bound ≡ false → cuts bound made place ms ≡ []
none_cut bound made place [] used = refl
none_cut bound made place (m ∷ ms) used =
    cond-false _ _ _ (and_right (leb place m.0) (fewer made bound) used) ∙ none_cut bound made place ms used

module _ (marks : Marks) (bound : ℤ) (made place : ℕ) where
  -- a mark that begins before the place is not cut
  mark_at_past : (a e n : ℕ) (ms : List Span) → a < place
      → cuts bound made place (mark_at marks a e n ++ ms) ≡ cuts bound made place ms
  mark_at_past a e zero ms lt = refl
  mark_at_past a e (suc n) ms lt = by (marks a e) (mark_at_past a (suc e) n ms lt)
    where
      by : (b : Bool) → cuts bound made place (mark_at marks a (suc e) n ++ ms) ≡ cuts bound made place ms
          → cuts bound made place (cond b ((a, e) ∷ []) (mark_at marks a (suc e) n) ++ ms) ≡ cuts bound made place ms
      by true more = cond-false _ _ _ (and_left (leb place a) (fewer made bound) (lt-leb place a lt))
      by false more = more

  -- marks that begin before the place are not cut
  pub marks_from_past : (a n : ℕ) → a + n ≤ place → cuts bound made place (marks_from marks a n) ≡ []
  marks_from_past a zero le = refl
  marks_from_past a (suc n) le =
      mark_at_past a (suc a) (suc n) (marks_from marks (suc a) n) (omega arith)
      ∙ marks_from_past (suc a) n (omega arith)

module _ (on : Opening) (law : Lawful on.marks (size on)) (made place : ℕ) where
  -- the first mark from the place on is the next that is cut
  pub cut_found : (a e : ℕ) → Few on.bound made → Least on.marks place a e
      → cut_from on made place ≡ (a, e) ∷ cut_from on (suc made) e
  cut_found a e few least =
      let long = law.nonempty a e least.is in
      let inside = law.within a e least.is in
      let from = least.after in
      greedy_one on.bound law made place _ _ (greedy_cuts on.bound law made place (omega arith))
      (least, few, greedy_cuts on.bound law (suc made) e inside)

  -- where no mark is left none is cut
  pub none_found : NoneFrom on.marks place → cut_from on made place ≡ []
  none_found none = ⊎_elim
      (λ past. marks_from_past on.marks on.bound made place 0 (size on) (omega arith))
      (λ within.
      greedy_one on.bound law made place _ [] (greedy_cuts on.bound law made place within)
      (within, λ few b d is from lt. none b d from is))
      (cases_lt (size on) place)

  -- and none is cut with the bound used up
  pub used_up : fewer made on.bound ≡ false → cut_from on made place ≡ []
  used_up used = none_cut on.bound made place _ used

  -- what next gives where a mark is cut, and where none is
  pub next_cut : (a e : ℕ) → Few on.bound made → Least on.marks place a e
      → next_of on (at place made false) ≡ (Some (place, a), at e (suc made) false)
  next_cut a e few least = ap (after_cut (size on) (at place made false)) (cut_found a e few least)

  -- and where none is, the last piece
  pub next_rest : cut_from on made place ≡ []
      → next_of on (at place made false) ≡ (Some (place, size on), at (size on) made true)
  next_rest none = ap (after_cut (size on) (at place made false)) none

-- without a bound as many marks are cut as a searcher counts
pub length-cut_from : (on : Opening) → Lawful on.marks (size on) → ((n : ℕ) → Few on.bound n)
    → (k made place : ℕ) → CutTimes on.marks place k → length (cut_from on made place) ≡ k
length-cut_from on law few zero made place none = ap length (none_found on law made place none)
length-cut_from on law few (suc k) made place (a, e, least, rest) =
    ap length (cut_found on law made place a e (few made) least)
    ∙ ap suc (length-cut_from on law few k (suc made) e rest)
