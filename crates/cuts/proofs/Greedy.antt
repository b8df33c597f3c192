-- Cuts that take, each in turn, the least mark that may be cut: they are what the rule asks for, and no other list is.
-- Assumes nothing.
use Rattle.std.proofs.Common.{◌≡◌, ℕ, suc, ◌+◌, ◌<◌, ◌≤◌, cond, IsTrue, ltb, List, [], ◌∷◌, ◌++◌, ℤ, Some, None, Option}
use Rattle.std.proofs.Common.{sym, refl, subst, inl, inr, ⊎_elim, zero-add, arith}
use Rattle.std.proofs.lemmas.Bool.{cond-true, cond-false, lt-ltb, le-ltb, cases_lt}
use Rattle.searchers.specs.Marks.{Marks, Span, Lawful, Least}
use Rattle.cuts.specs.Cuts.{fewer}
use Rattle.cuts.specs.Runs.{In, Free, count_before, CutRule, Cut, marks_of, Lie, count}

-- so many cuts are fewer than the bound
abbrev pub Few : ℤ → ℕ → Type 0
Few bound n = IsTrue (fewer n bound)

-- cuts from `p` on, after `n` others, each the least mark that may be cut, and none left to cut before `rest`
abbrev pub Greedy : Marks → ℤ → ℕ → ℕ → List Span → ℕ → Type 0
Greedy marks bound n p [] rest = (p ≤ rest) × (Few bound n → (b d : ℕ) → IsTrue (marks b d) → p ≤ b → b < rest → ⊥)
Greedy marks bound n p (c ∷ cs) rest = Least marks p c.0 c.1 × Few bound n × Greedy marks bound (suc n) c.1 cs rest

-- the rule, from `p` on and after `n` other cuts
record RuleFrom (marks : Marks) (bound : ℤ) (n p rest : ℕ) (cut : List Span) : Type 0 where
  marked : (m : Span) → In m cut → IsTrue (marks m.0 m.1) × (p ≤ m.0) × (m.0 < rest)
  only : (m : Span) → In m cut → Free cut m × Few bound (n + count_before cut m.0)
  every : (m : Span) → IsTrue (marks m.0 m.1) → p ≤ m.0 → m.0 < rest → Free cut m → Few bound (n + count_before cut m.0)
      → In m cut

-- so many cuts, by another name
few_at : (bound : ℤ) (j k : ℕ) → j ≡ k → Few bound j → Few bound k
few_at bound j k e h = subst (Few bound) e h

-- none of these cuts begins before `a`
count_before_none : (cut : List Span) (a : ℕ) → ((c : Span) → In c cut → a ≤ c.0) → count_before cut a ≡ 0
count_before_none [] a h = refl
count_before_none (c ∷ cs) a h =
    let t : ◌≡◌ {A = ℕ} (cond (ltb c.0 a) 1 0) 0 = cond-false (ltb c.0 a) 1 0 (le-ltb c.0 a (h c (inl refl))) in
    omega (arith, count_before_none cs a (λ d k. h d (inr k)))

-- a cut that begins before `a` counts
count_before_one : (c : Span) (cs : List Span) (a : ℕ) → c.0 < a → count_before (c ∷ cs) a ≡ suc (count_before cs a)
count_before_one c cs a h =
    let t : ◌≡◌ {A = ℕ} (cond (ltb c.0 a) 1 0) 1 = cond-true (ltb c.0 a) 1 0 (lt-ltb c.0 a h) in omega arith

-- the first cut begins first
first_first : (c : Span) (cs : List Span) → c.0 ≤ c.1 → ((d : Span) → In d cs → c.1 ≤ d.0) → (d : Span) → In d (c ∷ cs)
    → c.0 ≤ d.0
first_first c cs long later d (inl e) = let d0 : d.0 ≡ c.0 = λ i. (e i).0 in omega arith
first_first c cs long later d (inr k) = omega (arith, later d k)

-- the first cut stands in the way of none that begins at its end or after it
free_more : (c : Span) (cs : List Span) (m : Span) → c.1 ≤ m.0 → Free cs m → Free (c ∷ cs) m
free_more c cs m past free d (inl e) lt over = let d1 : d.1 ≡ c.1 = λ i. (e i).1 in omega arith
free_more c cs m past free d (inr k) lt over = free d k lt over

-- the rest begins at the first piece or after it
lie_end : (len p : ℕ) (row : List Cut) (last : Option Span) (rest : ℕ) → Lie p row last rest len → p ≤ rest
lie_end len p [] None rest l = omega arith
lie_end len p [] (Some piece) rest l = omega arith
lie_end len p (x ∷ xs) last rest l = omega (arith, lie_end len x.1.1 xs last rest l.4)

-- each mark begins at the first piece or after it
lie_from : (len p : ℕ) (row : List Cut) (last : Option Span) (rest : ℕ) → Lie p row last rest len → (m : Span)
    → In m (marks_of row) → p ≤ m.0
lie_from len p [] last rest l m h = absurd h
lie_from len p (x ∷ xs) last rest l m (inl e) = let e0 : m.0 ≡ x.1.0 = λ i. (e i).0 in omega arith
lie_from len p (x ∷ xs) last rest l m (inr h) = omega (arith, lie_from len x.1.1 xs last rest l.4 m h)

-- the rest lies within the text
pub lie_within : (len p : ℕ) (row : List Cut) (rest : ℕ) → Lie p row None rest len → rest ≤ len
lie_within len p [] rest l = omega arith
lie_within len p (x ∷ xs) rest l = lie_within len x.1.1 xs rest l.4

-- one piece more counts one more
count-cons : (x : Cut) (xs : List Cut) (last : Option Span) → count (x ∷ xs) last ≡ suc (count xs last)
count-cons x xs None = refl
count-cons x xs (Some _) = refl

module _ {marks : Marks} {len : ℕ} (bound : ℤ) (law : Lawful marks len) where
  -- the rest begins where the cuts begin or after it
  greedy_end : (n p : ℕ) (cut : List Span) (rest : ℕ) → Greedy marks bound n p cut rest → p ≤ rest
  greedy_end n p [] rest g = g.0
  greedy_end n p (c ∷ cs) rest g = omega (arith, g.0.after, law.nonempty _ _ g.0.is, greedy_end (suc n) c.1 cs rest g.2)

  -- greedy cuts are marks, from the first place on and ahead of the rest
  greedy_marked : (n p : ℕ) (cut : List Span) (rest : ℕ) → Greedy marks bound n p cut rest → (m : Span) → In m cut
      → IsTrue (marks m.0 m.1) × (p ≤ m.0) × (m.0 < rest)
  greedy_marked n p [] rest g m h = absurd h
  greedy_marked n p (c ∷ cs) rest g m (inl e) =
      let e0 : m.0 ≡ c.0 = λ i. (e i).0 in
      let long = law.nonempty _ _ g.0.is in
      let end = greedy_end (suc n) c.1 cs rest g.2 in
      let from = g.0.after in
      (subst (λ (x : Span). IsTrue (marks x.0 x.1)) (sym e) g.0.is, omega arith, omega arith)
  greedy_marked n p (c ∷ cs) rest g m (inr h) =
      let r = greedy_marked (suc n) c.1 cs rest g.2 m h in
      (r.0, omega (arith, g.0.after, law.nonempty _ _ g.0.is), r.2)

  -- none of them overlaps an earlier one, and each is within the bound
  greedy_only : (n p : ℕ) (cut : List Span) (rest : ℕ) → Greedy marks bound n p cut rest → (m : Span) → In m cut
      → Free cut m × Few bound (n + count_before cut m.0)
  greedy_only n p [] rest g m h = absurd h
  greedy_only n p (c ∷ cs) rest g m (inl e) =
      let e0 : m.0 ≡ c.0 = λ i. (e i).0 in
      let long = law.nonempty _ _ g.0.is in
      let first = first_first c cs (omega arith) (λ d k. (greedy_marked (suc n) c.1 cs rest g.2 d k).1) in
      let none = count_before_none (c ∷ cs) m.0 (λ d k. omega (arith, first d k)) in
      (λ d k lt over. omega (arith, first d k), few_at bound n (n + count_before (c ∷ cs) m.0) (omega arith) g.1)
  greedy_only n p (c ∷ cs) rest g m (inr h) =
      let r = greedy_only (suc n) c.1 cs rest g.2 m h in
      let from = (greedy_marked (suc n) c.1 cs rest g.2 m h).1 in
      let long = law.nonempty _ _ g.0.is in
      let one = count_before_one c cs m.0 (omega arith) in (
        free_more c cs m from r.0,
        few_at bound (suc n + count_before cs m.0) (n + count_before (c ∷ cs) m.0) (omega arith) r.1,
      )

  -- and each mark that can be cut is one of them
  greedy_every : (n p : ℕ) (cut : List Span) (rest : ℕ) → Greedy marks bound n p cut rest
      → (m : Span) → IsTrue (marks m.0 m.1) → p ≤ m.0 → m.0 < rest → Free cut m → Few bound (n + count_before cut m.0)
      → In m cut
  greedy_every n p [] rest g m is from lt free few = g.1 (few_at bound (n + 0) n (omega arith) few) m.0 m.1 is from lt
  greedy_every n p (c ∷ cs) rest g m is from lt free few =
      let first = g.0.least m.0 m.1 from is in
      ⊎_elim
      (λ before.
      let wide = law.nonempty _ _ is in
      let past : c.1 ≤ m.0 =
      ⊎_elim (λ h. absurd (free c (inl refl) before (omega arith, h))) (λ h. h) (cases_lt m.0 c.1) in
      let one = count_before_one c cs m.0 before in
      inr
      (greedy_every (suc n) c.1 cs rest g.2 m is past lt (λ d k. free d (inr k))
      (few_at bound (n + count_before (c ∷ cs) m.0) (suc n + count_before cs m.0) (omega arith) few)))
      (λ at.
      let same0 : m.0 ≡ c.0 = omega arith in
      let same1 : m.1 ≡ c.1 = law.one_a_start m.0 m.1 c.1 is (rw same0 g.0.is) in
      inl (λ i. (same0 i, same1 i)))
      (cases_lt c.0 m.0)

  -- so greedy cuts keep the rule
  pub greedy_rule : (cut : List Span) (rest : ℕ) → Greedy marks bound 0 0 cut rest → CutRule marks bound rest cut
  greedy_rule cut rest g = record {
    marked = λ m h. let r = greedy_marked 0 0 cut rest g m h in (r.0, r.2);
    only = λ m h.
        let r = greedy_only 0 0 cut rest g m h in
        (r.0, few_at bound (0 + count_before cut m.0) (count_before cut m.0) (zero-add _) r.1);
    every = λ m is lt free few.
        greedy_every 0 0 cut rest g m is (omega arith) lt free
        (few_at bound (count_before cut m.0) (0 + count_before cut m.0) (sym (zero-add _)) few);
  }

  -- after the first cut the others keep the rule from its end on
  rule_more : (n p : ℕ) (c : Span) (cs : List Span) (rest : ℕ) → p ≤ c.0 → ((d : Span) → In d cs → c.1 ≤ d.0)
      → RuleFrom marks bound n p rest (c ∷ cs) → RuleFrom marks bound (suc n) c.1 rest cs
  rule_more n p c cs rest from later r =
      let long = law.nonempty _ _ (r.marked c (inl refl)).0 in
      record {
        marked = λ m h. ((r.marked m (inr h)).0, later m h, (r.marked m (inr h)).2);
        only = λ m h.
            let past = later m h in
            let one = count_before_one c cs m.0 (omega arith) in (
              λ d k. (r.only m (inr h)).0 d (inr k),
              few_at bound (n + count_before (c ∷ cs) m.0) (suc n + count_before cs m.0) (omega arith)
                  (r.only m (inr h)).1,
            );
        every = λ m is past lt free few.
            let one = count_before_one c cs m.0 (omega arith) in
            ⊎_elim
            (λ e. let e0 : m.0 ≡ c.0 = λ i. (e i).0 in absurd (omega arith))
            (λ h. h)
            (r.every m is (omega arith) lt (free_more c cs m past free)
            (few_at bound (suc n + count_before cs m.0) (n + count_before (c ∷ cs) m.0) (omega arith) few));
      }

  -- a list that keeps the rule and lies end to end is greedy
  rule-greedy : (n p : ℕ) (row : List Cut) (last : Option Span) (rest : ℕ) → Lie p row last rest len
      → RuleFrom marks bound n p rest (marks_of row) → Greedy marks bound n p (marks_of row) rest
  rule-greedy n p [] last rest l r = (
    lie_end len p [] last rest l,
    λ few b d is from lt. r.every (b, d) is from lt (λ c h. absurd h) (few_at bound n (n + 0) (omega arith) few),
  )
  rule-greedy n p (x ∷ xs) last rest l r =
      let c = x.1 in
      let cs = marks_of xs in
      let is = r.marked c (inl refl) in
      let later = lie_from len c.1 xs last rest l.4 in
      let first = first_first c cs l.3 later in
      let none = count_before_none (c ∷ cs) c.0 first in
      let few = few_at bound (n + count_before (c ∷ cs) c.0) n (omega arith) (r.only c (inl refl)).1 in
      let least : (b d : ℕ) → p ≤ b → IsTrue (marks b d) → c.0 ≤ b =
      λ b d from m.
      ⊎_elim
      (λ lt.
      let none-b = count_before_none (c ∷ cs) b (λ k h. omega (arith, first k h)) in
      first (b, d)
      (r.every (b, d) m from (omega arith) (λ k h before over. omega (arith, first k h))
      (few_at bound n (n + count_before (c ∷ cs) b) (omega arith) few)))
      (λ h. h)
      (cases_lt b c.0) in (
        record { after = is.1; is = is.0; least = least },
        few,
        rule-greedy (suc n) c.1 xs last rest l.4 (rule_more n p c cs rest is.1 later r),
      )

  -- and so it is from the start of the text
  pub rule-greedy_0 : (row : List Cut) (last : Option Span) (rest : ℕ) → Lie 0 row last rest len
      → CutRule marks bound rest (marks_of row) → Greedy marks bound 0 0 (marks_of row) rest
  rule-greedy_0 row last rest l r = rule-greedy 0 0 row last rest l record {
    marked = λ m h. ((r.marked m h).0, omega arith, (r.marked m h).1);
    only = λ m h. (
      (r.only m h).0,
      few_at bound (count_before (marks_of row) m.0) (0 + count_before (marks_of row) m.0) (sym (zero-add _))
          (r.only m h).1,
    );
    every = λ m is from lt free few.
        r.every m is lt free
        (few_at bound (0 + count_before (marks_of row) m.0) (count_before (marks_of row) m.0) (zero-add _) few);
  }

  -- one mark is the first from a place on
  same_least : (p : ℕ) (c d : Span) → Least marks p c.0 c.1 → Least marks p d.0 d.1 → c ≡ d
  same_least p c d k l =
      let le = k.least d.0 d.1 l.after l.is in
      let ge = l.least c.0 c.1 k.after k.is in
      let e0 : c.0 ≡ d.0 = omega arith in
      let e1 : c.1 ≡ d.1 = law.one_a_start c.0 c.1 d.1 k.is (rw e0 l.is) in
      λ i. (e0 i, e1 i)

  -- where greedy cuts end, no mark is left that may be cut
  none_at_end : (n p : ℕ) (c : Span) → Greedy marks bound n p [] len → Least marks p c.0 c.1 → Few bound n → ⊥
  none_at_end n p c g l few = g.1 few c.0 c.1 l.is l.after (omega (arith, law.nonempty _ _ l.is, law.within _ _ l.is))

  -- one list is greedy to the end of the text
  pub greedy_one : (n p : ℕ) (cut cut' : List Span) → Greedy marks bound n p cut len → Greedy marks bound n p cut' len
      → cut ≡ cut'
  greedy_one n p [] [] g g' = refl
  greedy_one n p [] (d ∷ ds) g g' = absurd (none_at_end n p d g g'.0 g'.1)
  greedy_one n p (c ∷ cs) [] g g' = absurd (none_at_end n p c g' g.0 g.1)
  greedy_one n p (c ∷ cs) (d ∷ ds) g g' =
      let e = same_least p c d g.0 g'.0 in
      let t =
      greedy_one (suc n) c.1 cs ds g.2 (subst (λ (x : Span). Greedy marks bound (suc n) x.1 ds len) (sym e) g'.2) in
      λ i. e i ∷ t i

  -- as many pieces, each with its mark, are the same pieces
  pub rows_one : (n p : ℕ) (row row' : List Cut) (last last' : Option Span) (rest rest' : ℕ)
      → Lie p row last rest len → Greedy marks bound n p (marks_of row) rest → Lie p row' last' rest' len
      → Greedy marks bound n p (marks_of row') rest'
      → count row' last' ≡ count row last → (row' ≡ row) × (last' ≡ last) × (rest' ≡ rest)
  rows_one n p [] [] None None rest rest' l g l' g' e = (refl, refl, omega arith)
  rows_one n p [] [] None (Some b) rest rest' l g l' g' e = absurd (omega arith)
  rows_one n p [] [] (Some a) None rest rest' l g l' g' e = absurd (omega arith)
  rows_one n p [] [] (Some a) (Some b) rest rest' l g l' g' e =
      let e0 : b.0 ≡ a.0 = omega arith in
      let e1 : b.1 ≡ a.1 = omega arith in
      (refl, λ i. Some (e0 i, e1 i), omega arith)
  rows_one n p [] (y ∷ ys) None last' rest rest' l g l' g' e = absurd (omega (arith, count-cons y ys last'))
  rows_one n p [] (y ∷ ys) (Some a) last' rest rest' l g l' g' e = absurd (none_at_end n p y.1 (rw l.3 at g) g'.0 g'.1)
  rows_one n p (x ∷ xs) [] last None rest rest' l g l' g' e = absurd (omega (arith, count-cons x xs last))
  rows_one n p (x ∷ xs) [] last (Some b) rest rest' l g l' g' e = absurd (none_at_end n p x.1 (rw l'.3 at g') g.0 g.1)
  rows_one n p (x ∷ xs) (y ∷ ys) last last' rest rest' l g l' g' e =
      let m = same_least p y.1 x.1 g'.0 g.0 in
      let m0 : y.1.0 ≡ x.1.0 = λ i. (m i).0 in
      let m1 : y.1.1 ≡ x.1.1 = λ i. (m i).1 in
      let e0 : y.0.0 ≡ x.0.0 = omega arith in
      let e1 : y.0.1 ≡ x.0.1 = omega arith in
      let r =
      rows_one (suc n) x.1.1 xs ys last last' rest rest' l.4 g.2 (rw m1 at l'.4) (rw m1 at g'.2)
      (omega (arith, count-cons x xs last, count-cons y ys last')) in
      (λ i. ((e0 i, e1 i), m i) ∷ r.0 i, r.1, r.2)

  -- the front of a greedy list is greedy up to where it ends
  pub greedy_front : (n p : ℕ) (row : List Cut) (still : List Span) (rest : ℕ) → Lie p row None rest len
      → Greedy marks bound n p (marks_of row ++ still) len → Greedy marks bound n p (marks_of row) rest
  greedy_front n p [] still rest l g = (omega arith, λ few b d is from lt. omega arith)
  greedy_front n p (x ∷ xs) still rest l g = (g.0, g.1, greedy_front (suc n) x.1.1 xs still rest l.4 g.2)
