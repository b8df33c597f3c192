-- The marks of line ends. Assumes nothing.
use Rattle.std.specs.Prelude.{◌≡◌, ℕ, suc, ◌+◌, ◌-◌, ◌<◌, ◌≤◌, Bool, not, ◌&&◌, ◌||◌, IsTrue, List, length}
use Rattle.std.specs.Prelude.{◌==◌, ◌≢◌, nat_lt, slice_index, slice_index_or}
use Rattle.std.proofs.Common.{subst, ⊎_elim, arith}
use Rattle.std.proofs.lemmas.List.{get_or_past}
use Rattle.std.proofs.lemmas.Bool.{eqb-true, eqb-false, eq-eqb, lt-ltb, not-true, both_ways, and_parts, and_from}
use Rattle.std.proofs.lemmas.Bool.{or_cases, cases_lt}
use Rattle.searchers.specs.Marks.{Marks, Lawful}

-- a carriage return stands at an offset
abbrev pub cr : List ℕ → ℕ → Bool
cr bs p = slice_index bs p == 13

-- a line feed stands at an offset
abbrev pub lf : List ℕ → ℕ → Bool
lf bs p = slice_index bs p == 10

-- a carriage return with a line feed, one that no line feed follows, and a line feed that no carriage return precedes
abbrev pub line_end : List ℕ → Marks
line_end bs a e =
    (cr bs a && (lf bs (suc a) && e == a + 2))
    || ((cr bs a && (not (lf bs (suc a)) && e == suc a))
    || (lf bs a && (not (nat_lt 0 a && cr bs (a - 1)) && e == suc a)))

-- a line end, by which of the three it is
pub data LineEnd (bs : List ℕ) (a e : ℕ) : Type 0 where
  pair : slice_index_or bs a 0 ≡ 13 → slice_index bs (suc a) ≡ 10 → e ≡ a + 2 → LineEnd bs a e
  lone_cr : slice_index_or bs a 0 ≡ 13 → (slice_index bs (suc a) ≢ 10) → e ≡ suc a → LineEnd bs a e
  lone_lf : slice_index_or bs a 0 ≡ 10 → (0 < a → slice_index bs (a - 1) ≢ 13) → e ≡ suc a → LineEnd bs a e

-- what a mark of line ends is
pub line_end-is : (bs : List ℕ) (a e : ℕ) → IsTrue (line_end bs a e) → LineEnd bs a e
line_end-is bs a e m = ⊎_elim paired (λ h. ⊎_elim return feed (or_cases _ _ h)) (or_cases _ _ m)
  where
    paired : IsTrue (cr bs a && (lf bs (suc a) && e == a + 2)) → LineEnd bs a e
    paired h =
        let p = and_parts _ _ h in
        let q = and_parts _ _ p.1 in
        pair (eqb-true _ _ p.0) (eqb-true _ _ q.0) (eqb-true _ _ q.1)

    return : IsTrue (cr bs a && (not (lf bs (suc a)) && e == suc a)) → LineEnd bs a e
    return h =
        let p = and_parts _ _ h in
        let q = and_parts _ _ p.1 in
        lone_cr (eqb-true _ _ p.0) (eqb-false _ _ (not-true _ q.0)) (eqb-true _ _ q.1)

    feed : IsTrue (lf bs a && (not (nat_lt 0 a && cr bs (a - 1)) && e == suc a)) → LineEnd bs a e
    feed h =
        let p = and_parts _ _ h in
        let q = and_parts _ _ p.1 in
        lone_lf (eqb-true _ _ p.0)
        (λ some before. both_ways _ (not-true _ q.0) (and_from _ _ (lt-ltb 0 a some) (eq-eqb _ _ before)))
        (eqb-true _ _ q.1)

-- a byte that is not 0 stands within the bytes
pub stands : (bs : List ℕ) (p x : ℕ) → 0 < x → slice_index bs p ≡ x → p < length bs
stands bs p x some e =
    ⊎_elim (λ h. h) (λ h. let z = get_or_past bs p 0 h in absurd (omega arith)) (cases_lt p (length bs))

-- a line end lies within the bytes
within : (bs : List ℕ) (a e : ℕ) → LineEnd bs a e → e ≤ length bs
within bs a e (pair x y z) = omega (arith, stands bs (suc a) 10 (omega arith) y)
within bs a e (lone_cr x y z) = omega (arith, stands bs a 13 (omega arith) x)
within bs a e (lone_lf x y z) = omega (arith, stands bs a 10 (omega arith) x)

-- and is not empty
longer : (bs : List ℕ) (a e : ℕ) → LineEnd bs a e → a < e
longer bs a e (pair x y z) = omega arith
longer bs a e (lone_cr x y z) = omega arith
longer bs a e (lone_lf x y z) = omega arith

-- two that begin at one offset end at one
one_a_start : (bs : List ℕ) (a d e : ℕ) → LineEnd bs a d → LineEnd bs a e → d ≡ e
one_a_start bs a d e (pair x y z) (pair _ _ w) = omega arith
one_a_start bs a d e (pair x y z) (lone_cr _ u w) = absurd (u y)
one_a_start bs a d e (pair x y z) (lone_lf v _ w) = absurd (omega arith)
one_a_start bs a d e (lone_cr x y z) (pair _ u w) = absurd (y u)
one_a_start bs a d e (lone_cr x y z) (lone_cr _ _ w) = omega arith
one_a_start bs a d e (lone_cr x y z) (lone_lf v _ w) = omega arith
one_a_start bs a d e (lone_lf x y z) (pair v _ w) = absurd (omega arith)
one_a_start bs a d e (lone_lf x y z) (lone_cr v _ w) = omega arith
one_a_start bs a d e (lone_lf x y z) (lone_lf _ _ w) = omega arith

-- what stands at an offset stands at the same offset under another name
at : (bs : List ℕ) (p q x : ℕ) → p ≡ q → slice_index bs p ≡ x → slice_index bs q ≡ x
at bs p q x e h = subst (λ (k : ℕ). slice_index bs k ≡ x) e h

-- two that end at one offset begin at one
one_an_end : (bs : List ℕ) (a b e : ℕ) → LineEnd bs a e → LineEnd bs b e → a ≡ b
one_an_end bs a b e (pair x y z) (pair _ _ w) = omega arith
one_an_end bs a b e (pair x y z) (lone_cr v _ w) = absurd (omega (arith, at bs (suc a) b 10 (omega arith) y))
one_an_end bs a b e (pair x y z) (lone_lf v u w) = absurd (u (omega arith) (at bs a (b - 1) 13 (omega arith) x))
one_an_end bs a b e (lone_cr x y z) (pair v u w) = absurd (omega (arith, at bs (suc b) a 10 (omega arith) u))
one_an_end bs a b e (lone_cr x y z) (lone_cr _ _ w) = omega arith
one_an_end bs a b e (lone_cr x y z) (lone_lf v _ w) = omega arith
one_an_end bs a b e (lone_lf x y z) (pair v u w) = absurd (y (omega arith) (at bs b (a - 1) 13 (omega arith) v))
one_an_end bs a b e (lone_lf x y z) (lone_cr v _ w) = omega arith
one_an_end bs a b e (lone_lf x y z) (lone_lf _ _ w) = omega arith

-- the marks of line ends keep what marks keep
pub line_end-lawful : (bs : List ℕ) → Lawful (line_end bs) (length bs)
line_end-lawful bs = record {
  nonempty = λ a e m. longer bs a e (line_end-is bs a e m);
  within = λ a e m. within bs a e (line_end-is bs a e m);
  one_a_start = λ a d e m k. one_a_start bs a d e (line_end-is bs a d m) (line_end-is bs a e k);
  one_an_end = λ a b e m k. one_an_end bs a b e (line_end-is bs a e m) (line_end-is bs b e k);
}
