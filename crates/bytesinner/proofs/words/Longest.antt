-- The runs of a text are its longest stretches without whitespace.
use Rattle.std.proofs.Common.{◌≡◌, ℕ, suc, ◌+◌, ◌-◌, ◌<◌, ◌≤◌, Bool, true, false, cond, ltb, ◌⊎◌, List, [], ◌∷◌, ◌++◌}
use Rattle.std.proofs.Common.{length, get_or, drop, sym, refl, ap, ◌∙◌, subst, inl, inr, ⊎_elim, arith, length-drop}
use Rattle.std.proofs.lemmas.List.{get_or-drop, drop-drop}
use Rattle.std.proofs.lemmas.Bool.{ltb-true, lt-ltb, both_ways, cases_lt, cond_both}
use Rattle.searchers.specs.Marks.{Span}
use Rattle.cuts.specs.Runs.{In}
use Rattle.bytesinner.specs.words.Words.{is_space, run, runs_from, runs, Run, InOrder, AllRuns}

-- a stretch under way: these bytes stand from `place` on, and no whitespace from `from` to it
record Open (bytes : List ℕ) (from place : ℕ) (bs : List ℕ) : Type 0 where
  rest : drop place bytes ≡ bs
  order : from ≤ place
  within : place ≤ length bytes
  bare : (k : ℕ) → from ≤ k → k < place → is_space (get_or bytes k 0) ≡ false
  before : 0 < from → is_space (get_or bytes (from - 1) 0) ≡ true

-- the byte at the place, and the bytes after it
record Head (bytes : List ℕ) (place b : ℕ) (bs : List ℕ) : Type 0 where
  here : get_or bytes place 0 ≡ b
  lt : place < length bytes
  next : drop (suc place) bytes ≡ bs

-- they stand where the stretch has come to
head : {bytes : List ℕ} {from place b : ℕ} {bs : List ℕ} → Open bytes from place (b ∷ bs) → Head bytes place b bs
head {bytes} {from} {place} o =
    let e = o.rest in
    let z : place + 0 ≡ place = omega arith in
    let s : suc place ≡ place + 1 = omega arith in
    let first = sym (get_or-drop place bytes 0 0) ∙ ap (λ (xs : List ℕ). get_or xs 0 0) e in
    record {
      here = ap (λ (k : ℕ). get_or bytes k 0) (sym z) ∙ first;
      lt = omega (arith, length-drop place bytes, ap length e);
      next = ap (λ (k : ℕ). drop k bytes) s ∙ sym (drop-drop 1 place bytes) ∙ ap (drop 1) e;
    }

-- behind whitespace a stretch begins anew, and behind any other byte it goes on
passed : {bytes : List ℕ} {from place b : ℕ} {bs : List ℕ} → Open bytes from place (b ∷ bs) → is_space b ≡ true
    → Open bytes (suc place) (suc place) bs
passed {bytes} {from} {place} {b} o is =
    let h = head o in
    let z : suc place - 1 ≡ place = omega arith in
    record {
      rest = h.next;
      order = omega arith;
      within = h.lt;
      bare = λ k ge lt. absurd (omega arith);
      before = λ _. ap (λ (k : ℕ). is_space (get_or bytes k 0)) z ∙ ap is_space h.here ∙ is;
    }

went_on : {bytes : List ℕ} {from place b : ℕ} {bs : List ℕ} → Open bytes from place (b ∷ bs) → is_space b ≡ false
    → Open bytes from (suc place) bs
went_on {bytes} {from} {place} {b} o is =
    let h = head o in
    let ord = o.order in
    let here : is_space (get_or bytes place 0) ≡ false = ap is_space h.here ∙ is in
    let last : (k : ℕ) → k ≡ place → is_space (get_or bytes k 0) ≡ false =
    λ k z. ap (λ (j : ℕ). is_space (get_or bytes j 0)) z ∙ here in
    record {
      rest = h.next;
      order = omega arith;
      within = h.lt;
      bare = λ k ge lt. ⊎_elim (o.bare k ge) (λ past. last k (omega arith)) (cases_lt k place);
      before = o.before;
    }

-- what is in a run and others
in_run : (a e : ℕ) (rs : List Span) (m : Span) → In m (run a e ++ rs) → ((a < e) × (m ≡ (a, e))) ⊎ In m rs
in_run a e rs m =
    cond_both (ltb a e) ((a, e) ∷ []) []
    (λ (ms : List Span). In m (ms ++ rs) → ((a < e) × (m ≡ (a, e))) ⊎ In m rs)
    (λ is. ⊎_elim (λ here. inl (ltb-true a e is, here)) inr)
    (λ is. inr)

-- a run is in itself and others, and what is in others is in them behind it
run_in : (a e : ℕ) (rs : List Span) → a < e → In (a, e) (run a e ++ rs)
run_in a e rs lt = subst (λ (t : Bool). In (a, e) (cond t ((a, e) ∷ []) [] ++ rs)) (sym (lt-ltb a e lt)) (inl refl)

past_run : (a e : ℕ) (rs : List Span) (m : Span) → In m rs → In m (run a e ++ rs)
past_run a e rs m there =
    cond_both (ltb a e) ((a, e) ∷ []) [] (λ (ms : List Span). In m (ms ++ rs)) (λ _. inr there) (λ _. there)

-- what is in order from an offset on is so from a lesser one on
looser : (p q : ℕ) (rs : List Span) → p ≤ q → InOrder q rs → InOrder p rs
looser p q [] le o = tt
looser p q (r ∷ rs) le o = (omega arith, o.1)

-- a run before what is in order from behind it on
order-run : (from place : ℕ) (rs : List Span) → from ≤ place → InOrder (suc place) rs
    → InOrder from (run from place ++ rs)
order-run from place rs le more =
    cond_both (ltb from place) ((from, place) ∷ []) []
    (λ (ms : List Span). InOrder from (ms ++ rs))
    (λ _. (omega arith, more))
    (λ _. looser from (suc place) rs (omega arith) more)

-- the runs are in order
order_from : (from place : ℕ) (bs : List ℕ) → from ≤ place → InOrder from (runs_from from place bs)
order_from from place [] le =
    cond_both (ltb from place) ((from, place) ∷ []) [] (InOrder from) (λ _. (omega arith, tt)) (λ _. tt)
order_from from place (b ∷ bs) le =
    cond_both (is_space b) _ _ (InOrder from)
    (λ _. order-run from place _ le (order_from (suc place) (suc place) bs (omega arith)))
    (λ _. order_from from (suc place) bs (omega arith))

-- what ends at the text's end or at whitespace is a run
closed : {bytes : List ℕ} {from place : ℕ} {bs : List ℕ} (m : Span) → Open bytes from place bs
    → (place < length bytes → is_space (get_or bytes place 0) ≡ true) → from < place → m ≡ (from, place)
    → Run bytes m.0 m.1
closed {bytes} {from} {place} m o ends lt is =
    subst (λ (r : Span). Run bytes r.0 r.1) (sym is)
    (record { nonempty = lt; within = o.within; bare = o.bare; before = o.before; after = ends })

-- each of them is a run
each_from : (bytes : List ℕ) (from place : ℕ) (bs : List ℕ) → Open bytes from place bs → (m : Span)
    → In m (runs_from from place bs) → Run bytes m.0 m.1
each_from bytes from place [] o m =
    cond_both (ltb from place) ((from, place) ∷ []) [] (λ (ms : List Span). In m ms → Run bytes m.0 m.1)
    (λ is.
    let at_end = λ (lt : place < length bytes). absurd (omega (arith, length-drop place bytes, ap length o.rest)) in
    ⊎_elim (closed m o at_end (ltb-true from place is)) (λ none. absurd none))
    (λ _ none. absurd none)
each_from bytes from place (b ∷ bs) o m =
    cond_both (is_space b) _ _ (λ (ms : List Span). In m ms → Run bytes m.0 m.1)
    (λ is there. ⊎_elim
    (λ h. closed m o (λ _. ap is_space (head o).here ∙ is) h.0 h.1)
    (each_from bytes (suc place) (suc place) bs (passed o is) m)
    (in_run from place _ m there))
    (λ is. each_from bytes from (suc place) bs (went_on o is) m)

-- a run that begins in the stretch under way begins with it
begins : {bytes : List ℕ} {from place : ℕ} {bs : List ℕ} (a e : ℕ) → Open bytes from place bs → Run bytes a e → from ≤ a
    → a ≤ place → a ≡ from
begins {bytes} {from} {place} a e o r ge le = ⊎_elim
    (λ lt. absurd (both_ways _ (o.bare (a - 1) (omega arith) (omega arith)) (r.before (omega arith))))
    (λ past. omega arith)
    (cases_lt from a)

-- and does not end before its place
not_before : {bytes : List ℕ} {from place : ℕ} {bs : List ℕ} (a e : ℕ) → Open bytes from place bs → Run bytes a e
    → from ≤ a → place ≤ e
not_before {bytes} {from} {place} a e o r ge = ⊎_elim
    (λ lt. absurd (both_ways _ (o.bare e (omega (arith, r.nonempty)) lt) (r.after (omega (arith, o.within)))))
    (λ h. h)
    (cases_lt e place)

-- every run is among them
every-from : (bytes : List ℕ) (from place : ℕ) (bs : List ℕ) → Open bytes from place bs → (a e : ℕ) → Run bytes a e
    → from ≤ a → In (a, e) (runs_from from place bs)
every-from bytes from place [] o a e r ge =
    let all : place ≡ length bytes = omega (arith, length-drop place bytes, ap length o.rest, o.within) in
    let l = not_before a e o r ge in
    let end : place ≡ e = omega (arith, r.within) in
    let start : from ≡ a = sym (begins a e o r ge (omega (arith, r.nonempty))) in
    let lt : from < place = omega (arith, r.nonempty) in
    subst (λ (t : Bool). In (a, e) (cond t ((from, place) ∷ []) [])) (sym (lt-ltb from place lt))
    (inl (λ i. (sym start i, sym end i)))
every-from bytes from place (b ∷ bs) o a e r ge =
    cond_both (is_space b) _ _ (In (a, e))
    (λ is. ⊎_elim
    (λ lt.
    let l = not_before a e o r ge in
    let start : from ≡ a = sym (begins a e o r ge (omega arith)) in
    let here = ap is_space (head o).here ∙ is in
    let no-further : e ≤ place =
    ⊎_elim (λ in-it. absurd (both_ways _ (r.bare place (omega arith) in-it) here)) (λ h. h) (cases_lt place e) in
    let end : place ≡ e = omega arith in
    subst
    (λ (s : Span). In s (run from place ++ runs_from (suc place) (suc place) bs))
    (λ i. (start i, end i))
    (run_in from place _ (omega (arith, r.nonempty))))
    (λ later. past_run from place _ (a, e) (every-from bytes (suc place) (suc place) bs (passed o is) a e r later))
    (cases_lt a (suc place)))
    (λ is. every-from bytes from (suc place) bs (went_on o is) a e r ge)

-- a text opens a stretch
opens : (bytes : List ℕ) → Open bytes 0 0 bytes
opens bytes = record {
  rest = refl;
  order = omega arith;
  within = omega arith;
  bare = λ k ge lt. absurd (omega arith);
  before = λ some. absurd (omega arith);
}

-- the definition keeps the law
pub all_runs : (bytes : List ℕ) → AllRuns bytes (runs bytes)
all_runs bytes = record {
  each = each_from bytes 0 0 bytes (opens bytes);
  every = λ a e r. every-from bytes 0 0 bytes (opens bytes) a e r (omega arith);
  order = order_from 0 0 bytes (omega arith);
}
