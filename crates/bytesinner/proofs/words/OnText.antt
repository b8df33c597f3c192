-- The words of a text lie on boundaries where bytes below 128 stand apart.
use Rattle.std.proofs.Common.{◌≡◌, ℕ, zero, suc, ◌-◌, ◌<◌, ◌≤◌, true, ltb, List, [], ◌∷◌, length, take, drop, ℤ, Ok}
use Rattle.std.proofs.Common.{Result, sym, refl, ap, ◌∙◌, subst, ⊎_elim, arith, length-append, take-append-drop}
use Rattle.std.specs.List.{concat}
use Rattle.std.proofs.lemmas.Bool.{cases_lt, cond_both}
use Rattle.std.proofs.lemmas.List.Folds.{concat-append}
use Rattle.anystr.specs.Elements.{Boundary, Cut}
use Rattle.anystr.specs.Places.{Lists}
use Rattle.anystr.specs.declared.place.Place.{Place}
use Rattle.anystr.specs.declared.refusal.Refusal.{Refusal}
use Rattle.searchers.specs.Ascii.{AsciiApart}
use Rattle.searchers.specs.Marks.{Span}
use Rattle.anystr.proofs.Boundaries.{end_on}
use Rattle.bytesinner.specs.Splitting.{WordsLaw}
use Rattle.bytesinner.specs.Written.{Cuttable}
use Rattle.bytesinner.specs.words.Words.{is_space, runs, lone_count, to_end, from_start, words_of, rwords_of, Run}
use Rattle.bytesinner.proofs.Written.{written, cuttable-nil, cuttable-cons, cuttable-head, cuttable-tail}
use Rattle.bytesinner.proofs.words.Longest.{all_runs}

-- whitespace is below 128
is_space-low : (b : ℕ) → is_space b ≡ true → b < 128
is_space-low b is = grind arith

module _ (es : List (List ℕ)) where
  -- no boundary lies past the end
  inside : (p : ℕ) → Boundary es p → p ≤ length (concat es)
  inside p (k, is) =
      let parts = concat-append (take k es) (drop k es) in
      let long = ap length (sym parts ∙ ap concat (take-append-drop k es)) in
      omega (arith, length-append (concat (take k es)) (concat (drop k es)))

  -- the first stretches, and the others
  taken : (n : ℕ) (rs : List Span) → Cuttable es rs → Cuttable es (take n rs)
  taken zero rs c = cuttable-nil es
  taken (suc n) [] c = c
  taken (suc n) (r ∷ rs) c =
      cuttable-cons es r (take n rs) (cuttable-head es r rs c) (taken n rs (cuttable-tail es r rs c))

  dropped : (n : ℕ) (rs : List Span) → Cuttable es rs → Cuttable es (drop n rs)
  dropped zero rs c = c
  dropped (suc n) [] c = c
  dropped (suc n) (r ∷ rs) c = dropped n rs (cuttable-tail es r rs c)

  -- a stretch that goes on to the end of the text, or from its start on
  to_end-cut : (rs : List Span) → Cuttable es rs → Cuttable es (to_end (length (concat es)) rs)
  to_end-cut [] c = c
  to_end-cut (r ∷ []) c =
      let one = cuttable-head es r [] c in
      let order : r.0 ≤ length (concat es) = omega (arith, one.order, inside r.1 one.end) in
      cuttable-cons es _ [] (record { order = order; start = one.start; end = end_on es }) (cuttable-nil es)
  to_end-cut (r ∷ s ∷ rs) c =
      cuttable-cons es r _ (cuttable-head es r (s ∷ rs) c) (to_end-cut (s ∷ rs) (cuttable-tail es r (s ∷ rs) c))

  from_start-cut : (rs : List Span) → Cuttable es rs → Cuttable es (from_start rs)
  from_start-cut [] c = c
  from_start-cut (r ∷ rs) c =
      let one = cuttable-head es r rs c in
      cuttable-cons es _ rs (record { order = omega arith; start = (0, refl); end = one.end }) (cuttable-tail es r rs c)

  -- a run begins at the start of the text or behind whitespace, and ends at its end or before whitespace
  run-cut : AsciiApart es → (a e : ℕ) → Run (concat es) a e → Cut es a e
  run-cut apart a e r =
      let long = r.nonempty in
      let within = r.within in
      record {
        order = omega arith;
        start = ⊎_elim
            (λ some.
            let last : suc (a - 1) ≡ a = omega arith in
            subst (Boundary es) last (apart (a - 1) (omega arith) (is_space-low _ (r.before some))).1)
            (λ none. (0, let first : 0 ≡ a = omega arith in first))
            (cases_lt 0 a);
        end = ⊎_elim
            (λ lt. (apart e lt (is_space-low _ (r.after lt))).0)
            (λ past. let all : length (concat es) ≡ e = omega arith in subst (Boundary es) all (end_on es))
            (cases_lt e (length (concat es)));
      }

  runs-cut : AsciiApart es → Cuttable es (runs (concat es))
  runs-cut apart q h = run-cut apart q.0 q.1 ((all_runs (concat es)).each q h)

  module _ (bound : ℤ) (apart : AsciiApart es) where
    pub words-cut : Cuttable es (words_of (concat es) bound)
    words-cut =
        let rs = runs (concat es) in
        let n = lone_count (length rs) bound in
        cond_both (ltb n (length rs)) _ _ (Cuttable es)
        (λ _. to_end-cut _ (taken (suc n) rs (runs-cut apart)))
        (λ _. runs-cut apart)

    pub rwords-cut : Cuttable es (rwords_of (concat es) bound)
    rwords-cut =
        let rs = runs (concat es) in
        let n = lone_count (length rs) bound in
        cond_both (ltb n (length rs)) _ _ (Cuttable es)
        (λ _. from_start-cut _ (dropped (length rs - suc n) rs (runs-cut apart)))
        (λ _. runs-cut apart)

  -- what both calls say of the list that they write
  abbrev Told : List Span → (list list' : List Place) → Result ℕ Refusal → Type 0
  Told ps list list' r = record {
    value : Lists (Ok ps) list list' r;
    law : WordsLaw es list' r;
  }

  pub told : (ps : List Span) → (AsciiApart es → Cuttable es ps) → (list list' : List Place) (r : Result ℕ Refusal)
      → Lists (Ok ps) list list' r → Told ps list list' r
  told ps cut list list' r h = record {
    value = h;
    law = (all_runs (concat es), λ apart. written (Cuttable es) ps (cut apart) list list' r h);
  }
