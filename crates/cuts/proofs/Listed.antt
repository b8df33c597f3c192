-- `cuts` over every mark of a text is greedy. Assumes nothing.
use Rattle.std.proofs.Common.{◌≡◌, ℕ, zero, suc, ◌+◌, ◌<◌, ◌≤◌, Bool, true, false, cond, ◌&&◌, IsTrue, leb, ◌⊎◌, List}
use Rattle.std.proofs.Common.{[], ◌∷◌, ◌++◌, ℤ, sym, refl, subst, inl, inr, ⊎_elim, arith}
use Rattle.std.specs.Prelude.{if◌then◌else◌}
use Rattle.std.proofs.lemmas.Bool.{leb-true, leb-false, and_parts, and_cases, both_ways, cases_lt}
use Rattle.searchers.specs.Marks.{Marks, Span, Lawful}
use Rattle.cuts.specs.Cuts.{mark_at, marks_from, all_marks, fewer, cuts}
use Rattle.cuts.proofs.Greedy.{Few, Greedy, greedy_one}

-- the list is the mark that begins at `a` and ends at `e` or after it, up to `n` bytes on; or it is empty, and there is
-- none
abbrev IsMarkAt : Marks → ℕ → ℕ → ℕ → List Span → Type 0
IsMarkAt marks a e n ms =
    ((ms ≡ []) × ((d : ℕ) → e ≤ d → d < e + n → IsTrue (marks a d) → ⊥))
    ⊎ ((d : ℕ) × (ms ≡ (a, d) ∷ []) × IsTrue (marks a d))

-- one end more is looked at
mark_at_more : (marks : Marks) (a e n : ℕ) (ms : List Span) → IsMarkAt marks a (suc e) n ms → (b : Bool) → marks a e ≡ b
    → IsMarkAt marks a e (suc n) (cond b ((a, e) ∷ []) ms)
mark_at_more marks a e n ms r true is = inr (e, refl, is)
mark_at_more marks a e n ms (inl r) false is =
    inl (
      r.0,
      λ d from lt h.
          ⊎_elim (λ further. r.1 d further (omega arith) h)
          (λ here. let same : d ≡ e = omega arith in absurd (both_ways _ is (rw same at h))) (cases_lt e d),
    )
mark_at_more marks a e n ms (inr r) false is = inr r

-- the list is what it is said to be
mark_at_is : (marks : Marks) (a e n : ℕ) → IsMarkAt marks a e n (mark_at marks a e n)
mark_at_is marks a e zero = inl (refl, λ d from lt h. omega arith)
mark_at_is marks a e (suc n) =
    mark_at_more marks a e n (mark_at marks a (suc e) n) (mark_at_is marks a (suc e) n) (marks a e) refl

-- after `made` cuts no mark that begins from `place` to `a` may be cut
abbrev Past : Marks → ℤ → ℕ → ℕ → ℕ → Type 0
Past marks bound made place a = Few bound made → (b d : ℕ) → IsTrue (marks b d) → place ≤ b → b < a → ⊥

module _ {marks : Marks} {len : ℕ} (bound : ℤ) (law : Lawful marks len) where
  -- the cuts of marks from `a` on are greedy, from each place and after each number of cuts
  abbrev GreedyFrom : ℕ → List Span → Type 0
  GreedyFrom a ms =
      (made place : ℕ) → place ≤ len → Past marks bound made place a
      → Greedy marks bound made place (cuts bound made place ms) len

  -- a mark begins at `a`, and it is cut or not
  turn : (a made place e : ℕ) (ms : List Span) → GreedyFrom (suc a) ms
      → place ≤ len → Past marks bound made place a → IsTrue (marks a e)
      → (test : Bool) → (leb place a && fewer made bound) ≡ test
      → Greedy marks bound made place
      (if test then (a, e) ∷ cuts bound (suc made) e ms else cuts bound made place ms) len
  turn a made place e ms go within none is true t =
      let parts = and_parts (leb place a) (fewer made bound) t in
      let few : Few bound made = parts.1 in
      let long = law.nonempty a e is in (
        record {
          after = leb-true place a parts.0;
          is = is;
          least = λ b d from m. ⊎_elim (λ lt. absurd (none few b d m from lt)) (λ h. h) (cases_lt b a);
        },
        few,
        go (suc made) e (law.within a e is) (λ _ b d m from lt. omega arith),
      )
  turn a made place e ms go within none is false t =
      go made place within
      (λ few b d m from lt.
      ⊎_elim (λ h. omega (arith, leb-false place a h)) (λ h. absurd (both_ways _ h few))
      (and_cases (leb place a) (fewer made bound) t))

  -- cuts of the marks from `a` on are greedy
  greedy_marks_from : (a n : ℕ) → a + n ≡ len → GreedyFrom a (marks_from marks a n)
  greedy_marks_from a zero sum made place within none =
      (within, λ few b d is from lt. none few b d is from (omega arith))
  greedy_marks_from a (suc n) sum made place within none =
      let go = greedy_marks_from (suc a) n (omega arith) in
      let ms = marks_from marks (suc a) n in
      let Goal : List Span → Type 0 = λ hs. Greedy marks bound made place (cuts bound made place (hs ++ ms)) len in
      ⊎_elim
      (λ r.
      subst Goal (sym r.0)
      (go made place within (λ few b d is from lt.
      ⊎_elim
      (none few b d is from)
      (λ here.
      let same : b ≡ a = omega arith in
      let long = law.nonempty b d is in
      let inside = law.within b d is in
      r.1 d (omega arith) (omega arith) (rw same at is))
      (cases_lt b a))))
      (λ r. subst Goal (sym r.1) (turn a made place r.0 ms go within none r.2 (leb place a && fewer made bound) refl))
      (mark_at_is marks a (suc a) (suc n))

  -- and so are the cuts of all marks
  pub greedy_cuts : (made place : ℕ) → place ≤ len
      → Greedy marks bound made place (cuts bound made place (all_marks marks len)) len
  greedy_cuts made place within =
      greedy_marks_from 0 len (omega arith) made place within (λ few b d is from lt. omega arith)

  -- after a cut the others are those that were left
  pub cuts_after : (made place : ℕ) (m : Span) (ms : List Span) → place ≤ len
      → cuts bound made place (all_marks marks len) ≡ m ∷ ms
      → (m.1 ≤ len) × (place ≤ m.0) × (m.0 ≤ m.1) × (cuts bound (suc made) m.1 (all_marks marks len) ≡ ms)
  cuts_after made place m ms within e =
      let g = rw e at (greedy_cuts made place within) in
      let inside = law.within _ _ g.0.is in
      let long = law.nonempty _ _ g.0.is in
      (inside, g.0.after, omega arith, greedy_one bound law (suc made) m.1 _ ms (greedy_cuts (suc made) m.1 inside) g.2)
