-- Marks as they are seen from the end of the text.
use Rattle.std.proofs.Common.{◌≡◌, ℕ, ◌-◌, ◌≤◌, IsTrue, leb, arith}
use Rattle.std.proofs.lemmas.Bool.{and_parts, and_from, leb-true, le-leb}
use Rattle.searchers.specs.Marks.{Marks, Span, Lawful, Least, NoneFrom, Greatest, NoneBefore}
use Rattle.cuts.specs.Splits.{flip, mirror}

-- a mark of the mirror, by its parts
pub record Mirrored (marks : Marks) (len a e : ℕ) : Type 0 where
  pub start : a ≤ len
  pub end : e ≤ len
  pub is : IsTrue (marks (len - e) (len - a))

-- what is seen from the end is a mark
pub mirrored : (marks : Marks) (len a e : ℕ) → IsTrue (mirror marks len a e) → Mirrored marks len a e
mirrored marks len a e m =
    let p = and_parts _ _ m in
    let q = and_parts _ _ p.1 in
    record { start = leb-true a len p.0; end = leb-true e len q.0; is = q.1 }

module _ (marks : Marks) (len : ℕ) where
  -- a mark is seen from the end
  pub seen : (a e : ℕ) → a ≤ len → e ≤ len → IsTrue (marks a e) → IsTrue (mirror marks len (len - e) (len - a))
  seen a e la le is =
      let ea : len - (len - a) ≡ a = omega arith in
      let ee : len - (len - e) ≡ e = omega arith in
      let there : IsTrue (marks (len - (len - a)) (len - (len - e))) = rw (ea, ee) is in
      and_from (leb (len - e) len) _ (le-leb (len - e) len (omega arith))
      (and_from (leb (len - a) len) _ (le-leb (len - a) len (omega arith)) there)

  -- seen twice from the end a stretch is as it was
  pub flip-flip : (m : Span) → m.0 ≤ len → m.1 ≤ len → flip len (flip len m) ≡ m
  flip-flip m l0 l1 =
      let e0 : len - (len - m.0) ≡ m.0 = omega arith in
      let e1 : len - (len - m.1) ≡ m.1 = omega arith in
      λ i. (e0 i, e1 i)

  module _ (law : Lawful marks len) where
    -- marks seen from the end are lawful
    pub mirror-lawful : Lawful (mirror marks len) len
    mirror-lawful = record {
      nonempty = λ a e m. let k = mirrored marks len a e m in omega (arith, law.nonempty _ _ k.is);
      within = λ a e m. (mirrored marks len a e m).end;
      one_a_start = λ a d e m n.
          let j = mirrored marks len a d m in
          let k = mirrored marks len a e n in
          omega (arith, law.one_an_end _ _ _ j.is k.is);
      one_an_end = λ a b e m n.
          let j = mirrored marks len a e m in
          let k = mirrored marks len b e n in
          omega (arith, law.one_a_start _ _ _ j.is k.is);
    }

    -- the mark with the greatest end before a place is the first from there on, seen from the end
    pub mirror-least : (before a e : ℕ) → before ≤ len → Greatest marks before a e
        → Least (mirror marks len) (len - before) (len - e) (len - a)
    mirror-least before a e within g =
        let long = law.nonempty a e g.is in
        let inside = law.within a e g.is in
        let ahead = g.ahead in
        record {
          after = omega arith;
          is = seen a e (omega arith) inside g.is;
          least = λ b d from m.
              let k = mirrored marks len b d m in omega (arith, g.greatest (len - d) (len - b) (omega arith) k.is);
        }

    -- where no mark ends before a place, none begins from there on, seen from the end
    pub mirror-none : (before : ℕ) → before ≤ len → NoneBefore marks before → NoneFrom (mirror marks len) (len - before)
    mirror-none before within none b d from m =
        let k = mirrored marks len b d m in none (len - d) (len - b) (omega arith) k.is
