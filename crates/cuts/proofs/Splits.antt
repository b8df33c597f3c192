-- What a text is split into keeps the rule of its cuts, and joined again it is the text.
use Rattle.std.proofs.Common.{◌≡◌, ℕ, suc, ◌+◌, ◌-◌, ◌<◌, ◌≤◌, Bool, cond, IsTrue, ltb, ◌⊎◌, List, [], ◌∷◌, ◌++◌, map}
use Rattle.std.proofs.Common.{length, take, drop, ℤ, sym, refl, ap, ◌∙◌, subst, inl, inr, ⊎_elim, arith}
use mathlib.Core.List.{reverse-cons}
use Rattle.std.proofs.lemmas.List.{take_rest, take-append-drop, drop-drop}
use Rattle.std.proofs.lemmas.Bool.{lt-ltb, le-ltb, cases_lt}
use Rattle.searchers.specs.Marks.{Marks, Span, Lawful}
use Rattle.cuts.specs.Cuts.{all_marks, cuts, between, fewer}
use Rattle.cuts.specs.Runs.{In, count_before, CutRule}
use Rattle.cuts.specs.Splits.{pieces_of, flip, mirror, mirrored_spans, rpieces_of, count_after, CutRuleBack, Apart}
use Rattle.cuts.specs.Splits.{SplitBy}
use Rattle.anystr.specs.Places.{part, with_between}
use Rattle.cuts.proofs.Greedy.{Greedy, greedy_rule}
use Rattle.cuts.proofs.Listed.{greedy_cuts}
use Rattle.cuts.proofs.Mirror.{Mirrored, mirrored, seen, flip-flip, mirror-lawful}

module _ {marks : Marks} {len : ℕ} (bound : ℤ) (law : Lawful marks len) where
  -- cuts that are taken in turn stand one after another
  greedy_apart : (n p : ℕ) (cut : List Span) → Greedy marks bound n p cut len → Apart p cut len
  greedy_apart n p [] g = g.0
  greedy_apart n p (c ∷ cs) g = (g.0.after, law.nonempty _ _ g.0.is, greedy_apart (suc n) c.1 cs g.2)

  -- the pieces from the front are split by the rule
  pub split-rule : SplitBy (CutRule marks bound len) len (pieces_of marks len bound)
  split-rule =
      let g = greedy_cuts bound law 0 0 (omega arith) in
      record {
        cut = cuts bound 0 0 (all_marks marks len);
        rule = greedy_rule bound law _ len g;
        order = greedy_apart 0 0 _ g;
        are = refl;
      }

-- cuts that stand one after another lie within the text
apart_within : (p : ℕ) (ms : List Span) (len : ℕ) → Apart p ms len → p ≤ len
apart_within p [] len h = h
apart_within p (m ∷ ms) len h = omega (arith, h.0, h.1, apart_within m.1 ms len h.2)

-- one cut more, at the end
apart_push : (p : ℕ) (ms : List Span) (c : Span) (len : ℕ) → Apart p ms c.0 → c.0 < c.1 → c.1 ≤ len
    → Apart p (ms ++ c ∷ []) len
apart_push p [] c len h long within = (h, long, within)
apart_push p (m ∷ ms) c len h long within = (h.0, h.1, apart_push m.1 ms c len h.2 long within)

-- the places between them, with one cut more at the end
between_push : (p : ℕ) (ms : List Span) (c : Span) (len : ℕ)
    → between p len (ms ++ c ∷ []) ≡ between p c.0 ms ++ (c.1, len) ∷ []
between_push p [] c len = refl
between_push p (m ∷ ms) c len = ap (λ (ps : List Span). (p, m.0) ∷ ps) (between_push m.1 ms c len)

module _ (len : ℕ) where
  -- the first is the last, seen from the end
  mirrored_spans-cons : (m : Span) (ms : List Span)
      → mirrored_spans len (m ∷ ms) ≡ mirrored_spans len ms ++ flip len m ∷ []
  mirrored_spans-cons m ms = reverse-cons (flip len m) (map (flip len) ms)

  -- the places between cuts that are seen from the end are what is seen of the places between them
  mirrored_spans-between : (p : ℕ) (ms : List Span)
      → mirrored_spans len (between p len ms) ≡ between 0 (len - p) (mirrored_spans len ms)
  mirrored_spans-between p [] = let z : len - len ≡ 0 = omega arith in λ i. (z i, len - p) ∷ []
  mirrored_spans-between p (m ∷ ms) =
      mirrored_spans-cons (p, m.0) (between m.1 len ms)
      ∙ (ap (λ (ps : List Span). ps ++ flip len (p, m.0) ∷ []) (mirrored_spans-between m.1 ms)
      ∙ (sym (between_push 0 (mirrored_spans len ms) (flip len m) (len - p))
      ∙ ap (between 0 (len - p)) (sym (mirrored_spans-cons m ms))))

  -- cuts stand one after another seen from the end too
  mirrored_apart : (p : ℕ) (ms : List Span) → Apart p ms len → Apart 0 (mirrored_spans len ms) (len - p)
  mirrored_apart p [] h = omega arith
  mirrored_apart p (m ∷ ms) h =
      let within = apart_within m.1 ms len h.2 in
      let from = h.0 in
      let long = h.1 in
      subst (λ (cs : List Span). Apart 0 cs (len - p)) (sym (mirrored_spans-cons m ms))
      (apart_push 0 (mirrored_spans len ms) (flip len m) (len - p) (mirrored_apart m.1 ms h.2) (omega arith)
      (omega arith))

-- what stands in a list stands in it with one more at the end
in_push_left : (m c : Span) (ms : List Span) → In m ms → In m (ms ++ c ∷ [])
in_push_left m c [] h = absurd h
in_push_left m c (d ∷ ms) (inl e) = inl e
in_push_left m c (d ∷ ms) (inr h) = inr (in_push_left m c ms h)

-- and so does the one more
in_push_last : (m c : Span) (ms : List Span) → m ≡ c → In m (ms ++ c ∷ [])
in_push_last m c [] e = inl e
in_push_last m c (d ∷ ms) e = inr (in_push_last m c ms e)

-- and nothing else does
in_push : (m c : Span) (ms : List Span) → In m (ms ++ c ∷ []) → In m ms ⊎ (m ≡ c)
in_push m c [] (inl e) = inr e
in_push m c [] (inr h) = absurd h
in_push m c (d ∷ ms) (inl e) = inl (inl e)
in_push m c (d ∷ ms) (inr h) = ⊎_elim (λ k. inl (inr k)) inr (in_push m c ms h)

-- one cut more at the end counts where it ends after `e`
count_after_push : (ms : List Span) (c : Span) (e : ℕ)
    → count_after (ms ++ c ∷ []) e ≡ cond (ltb e c.1) 1 0 + count_after ms e
count_after_push [] c e = refl
count_after_push (m ∷ ms) c e = omega (arith, count_after_push ms c e)

module _ (len : ℕ) where
  -- what is seen from the end stands among what is seen
  in_mirrored : (m : Span) (ms : List Span) → In m ms → In (flip len m) (mirrored_spans len ms)
  in_mirrored m [] h = absurd h
  in_mirrored m (c ∷ ms) (inl e) =
      rw (mirrored_spans-cons len c ms)
      (in_push_last (flip len m) (flip len c) (mirrored_spans len ms) (ap (flip len) e))
  in_mirrored m (c ∷ ms) (inr h) =
      rw (mirrored_spans-cons len c ms)
      (in_push_left (flip len m) (flip len c) (mirrored_spans len ms) (in_mirrored m ms h))

  -- nothing else does
  in_mirrored_of : (m : Span) (ms : List Span) → In m (mirrored_spans len ms) → (c : Span) × (m ≡ flip len c) × In c ms
  in_mirrored_of m [] h = absurd h
  in_mirrored_of m (c ∷ ms) h =
      ⊎_elim
      (λ k. let r = in_mirrored_of m ms k in (r.0, r.1, inr r.2))
      (λ e. (c, e, inl refl))
      (in_push m (flip len c) (mirrored_spans len ms) (rw (mirrored_spans-cons len c ms) at h))

  -- what is greater is less, seen from the end
  one_later : (a b : ℕ) → a ≤ len → b ≤ len → ltb (len - a) (len - b) ≡ ltb b a
  one_later a b la lb = ⊎_elim
      (λ lt. lt-ltb (len - a) (len - b) (omega arith) ∙ sym (lt-ltb b a lt))
      (λ le. le-ltb (len - a) (len - b) (omega arith) ∙ sym (le-ltb b a le))
      (cases_lt b a)

  -- the later cuts, seen from the end, are the earlier ones
  count_after-mirrored_spans : (ms : List Span) (a : ℕ) → a ≤ len → ((c : Span) → In c ms → c.0 ≤ len)
      → count_after (mirrored_spans len ms) (len - a) ≡ count_before ms a
  count_after-mirrored_spans [] a la within = refl
  count_after-mirrored_spans (c ∷ ms) a la within =
      let one : ◌≡◌ {A = ℕ} (cond (ltb (len - a) (len - c.0)) 1 0) (cond (ltb c.0 a) 1 0) =
      ap (λ (b : Bool). cond b 1 0) (one_later a c.0 la (within c (inl refl))) in
      ap (λ (cs : List Span). count_after cs (len - a)) (mirrored_spans-cons len c ms)
      ∙ omega (
        arith,
        count_after_push (mirrored_spans len ms) (flip len c) (len - a),
        count_after-mirrored_spans ms a la (λ d h. within d (inr h)),
      )

-- cuts that keep the rule in the mirror keep it from the end
module _
    {marks : Marks} {len : ℕ} (bound : ℤ) (law : Lawful marks len) (rest : ℕ) (ms : List Span)
    (rule : CutRule (mirror marks len) bound rest ms)
  where
    -- each cut is a mark, seen from the end
    inside : (c : Span) → In c ms → Mirrored marks len c.0 c.1
    inside c h = mirrored marks len c.0 c.1 (rule.marked c h).0

    -- none is empty
    long : (c : Span) → In c ms → c.0 < c.1
    long c h = (mirror-lawful marks len law).nonempty c.0 c.1 (rule.marked c h).0

    -- as many cuts end after a cut as begin before it, seen from the end
    count : (a : ℕ) → a ≤ len → count_after (mirrored_spans len ms) (len - a) ≡ count_before ms a
    count a la = count_after-mirrored_spans len ms a la (λ c h. (inside c h).start)

    -- so they keep the rule from the end
    pub mirrored-rule : CutRuleBack marks bound (len - rest) (mirrored_spans len ms)
    mirrored-rule = record {
      marked = λ m h.
          let r = in_mirrored_of len m ms h in
          let c = r.0 in
          let k = inside c r.2 in
          let w = long c r.2 in
          let p = (rule.marked c r.2).1 in
          let end : m.1 ≡ len - c.0 = λ i. (r.1 i).1 in
          (subst (λ (x : Span). IsTrue (marks x.0 x.1)) (sym r.1) k.is, omega (arith, k.start, k.end));
      only = λ m h.
          let r = in_mirrored_of len m ms h in
          let c = r.0 in
          let end : m.1 ≡ len - c.0 = λ i. (r.1 i).1 in
          let start : m.0 ≡ len - c.1 = λ i. (r.1 i).0 in
          let o = rule.only c r.2 in (
            λ d k lt over.
                let s = in_mirrored_of len d ms k in
                let d1 : d.1 ≡ len - s.0.0 = λ i. (s.1 i).1 in
                let d0 : d.0 ≡ len - s.0.1 = λ i. (s.1 i).0 in
                o.0 s.0 s.2 (omega arith) (omega arith, omega arith),
            subst (λ (n : ℕ). IsTrue (fewer n bound))
                (sym (ap (count_after (mirrored_spans len ms)) end ∙ count c.0 (inside c r.2).start)) o.1,
          );
      every = λ m is past free few.
          let w = law.nonempty _ _ is in
          let e = law.within _ _ is in
          let back : len - (len - m.1) ≡ m.1 = omega arith in
          let there = flip-flip marks len m (omega arith) e in
          let found : In (flip len m) ms =
          rule.every (flip len m) (seen marks len m.0 m.1 (omega arith) e is) (omega arith)
          (λ d k lt over.
          free (flip len d) (in_mirrored len d ms k) (omega (arith, (inside d k).start)) (omega arith, omega arith))
          (subst (λ (n : ℕ). IsTrue (fewer n bound))
          (ap (count_after (mirrored_spans len ms)) (sym back) ∙ count (len - m.1) (omega arith)) few) in
          subst (λ (x : Span). In x (mirrored_spans len ms)) there (in_mirrored len (flip len m) ms found);
    }

module _ {marks : Marks} {len : ℕ} (bound : ℤ) (law : Lawful marks len) where
  -- the pieces from the end are split by the rule from the end
  pub rsplit-rule : SplitBy (CutRuleBack marks bound 0) len (rpieces_of marks len bound)
  rsplit-rule =
      let s = split-rule bound (mirror-lawful marks len law) in
      let none : len - len ≡ 0 = omega arith in
      let all : len - 0 ≡ len = omega arith in
      record {
        cut = mirrored_spans len s.cut;
        rule = rw none at (mirrored-rule bound law len s.cut s.rule);
        order = rw all at (mirrored_apart len 0 s.cut s.order);
        are = ap (mirrored_spans len) s.are ∙ rw all at (mirrored_spans-between len 0 s.cut);
      }

-- a stretch and what follows it
then_rest : (bytes : List ℕ) (a b : ℕ) → a ≤ b → take (b - a) (drop a bytes) ++ drop b bytes ≡ drop a bytes
then_rest bytes a b le =
    let sum : a + (b - a) ≡ b = omega arith in
    ap (λ (r : List ℕ). take (b - a) (drop a bytes) ++ r)
    (ap (λ (n : ℕ). drop n bytes) (sym sum) ∙ sym (drop-drop (b - a) a bytes))
    ∙ take-append-drop (b - a) (drop a bytes)

-- a piece ahead of others
pub with_more : (sep bytes x : List ℕ) (p len : ℕ) (ms : List Span)
    → with_between sep (x ∷ map (part bytes) (between p len ms))
    ≡ x ++ (sep ++ with_between sep (map (part bytes) (between p len ms)))
with_more sep bytes x p len [] = refl
with_more sep bytes x p len (m ∷ ms) = refl

-- the parts between cuts, with what was cut between them, are the bytes from `p` on
restored : (sep bytes : List ℕ) (p : ℕ) (ms : List Span) → Apart p ms (length bytes)
    → ((m : Span) → In m ms → part bytes m ≡ sep)
    → with_between sep (map (part bytes) (between p (length bytes) ms)) ≡ drop p bytes
restored sep bytes p [] order is = take_rest bytes p
restored sep bytes p (m ∷ ms) order is =
    let from = order.0 in
    let wide = order.1 in
    with_more sep bytes (part bytes (p, m.0)) m.1 (length bytes) ms
    ∙ (ap (λ (r : List ℕ). part bytes (p, m.0) ++ (sep ++ r)) (restored sep bytes m.1 ms order.2 (λ c h. is c (inr h)))
    ∙ (ap (λ (s : List ℕ). part bytes (p, m.0) ++ (s ++ drop m.1 bytes)) (sym (is m (inl refl)))
    ∙ (ap (λ (r : List ℕ). part bytes (p, m.0) ++ r) (then_rest bytes m.0 m.1 (omega arith))
    ∙ then_rest bytes p m.0 from)))

-- splitting by any rule under which each cut is an occurrence of `sep`
pub split_restores : (Rule : List Span → Type 0) (sep bytes : List ℕ) (places : List Span)
    → ((cut : List Span) → Rule cut → (m : Span) → In m cut → part bytes m ≡ sep) → SplitBy Rule (length bytes) places
    → with_between sep (map (part bytes) places) ≡ bytes
split_restores Rule sep bytes places is s =
    ap (λ (ps : List Span). with_between sep (map (part bytes) ps)) s.are
    ∙ restored sep bytes 0 s.cut s.order (is s.cut s.rule)

-- the places between cuts run forward, and lie where the cuts, the start and the end of the text do
between_on : (P : ℕ → Type 0) (p : ℕ) (ms : List Span) (len : ℕ) → P p → P len → Apart p ms len
    → ((m : Span) → In m ms → P m.0 × P m.1)
    → (q : Span) → In q (between p len ms) → (q.0 ≤ q.1) × P q.0 × P q.1
between_on P p [] len start end order on q (inl e) =
    subst (λ (x : Span). (x.0 ≤ x.1) × P x.0 × P x.1) (sym e) (order, start, end)
between_on P p [] len start end order on q (inr h) = absurd h
between_on P p (m ∷ ms) len start end order on q (inl e) =
    subst (λ (x : Span). (x.0 ≤ x.1) × P x.0 × P x.1) (sym e) (order.0, start, (on m (inl refl)).0)
between_on P p (m ∷ ms) len start end order on q (inr h) =
    between_on P m.1 ms len (on m (inl refl)).1 end order.2 (λ c k. on c (inr k)) q h

-- so it is with the places of a split
pub split_on : (P : ℕ → Type 0) (Rule : List Span → Type 0) (len : ℕ) (places : List Span) → P 0 → P len
    → ((cut : List Span) → Rule cut → (m : Span) → In m cut → P m.0 × P m.1) → SplitBy Rule len places
    → (q : Span) → In q places → (q.0 ≤ q.1) × P q.0 × P q.1
split_on P Rule len places start end on s q h =
    between_on P 0 s.cut len start end s.order (on s.cut s.rule) q (subst (λ (ps : List Span). In q ps) s.are h)
