-- Marks of one length: as many are cut from the end of a text as from its front.
use Rattle.std.proofs.Common.{◌≡◌, ℕ, zero, suc, ◌-◌, ◌≤◌, false, IsTrue, List, [], ◌∷◌, length, ℤ, refl, arith}
use lib.ListN.{length-map}
use Rattle.searchers.specs.Marks.{Marks, Span, Lawful, AllOfLength, CutTimes}
use Rattle.cuts.specs.Cuts.{Opening, size, at, cut_from, pieces_left}
use Rattle.cuts.specs.Splits.{flip, mirror, mirrored_opening, left_back}
use Rattle.cuts.proofs.Greedy.{Few, Greedy}
use Rattle.cuts.proofs.Listed.{greedy_cuts}
use Rattle.cuts.proofs.Mirror.{mirrored, mirror-lawful, seen}
use Rattle.cuts.proofs.Sizes.{length-pieces_left}

-- n marks stand one behind another from `from` up to `to`
abbrev Fit : Marks → (from to n : ℕ) → Type 0
Fit marks from to zero = from ≤ to
Fit marks from to (suc n) = (a e : ℕ) × (from ≤ a) × IsTrue (marks a e) × Fit marks e to n

-- one more fits behind them
one_behind : (marks : Marks) (from a e to n : ℕ) → Fit marks from a n → IsTrue (marks a e) → e ≤ to
    → Fit marks from to (suc n)
one_behind marks from a e to zero fit is le = (a, e, fit, is, le)
one_behind marks from a e to (suc n) (b, d, ge, one, fit) is le = (b, d, ge, one, one_behind marks d a e to n fit is le)

-- as many fit where the text is seen from its other end
turned : (marks other : Marks) (len : ℕ) → ((a e : ℕ) → IsTrue (marks a e) → IsTrue (other (len - e) (len - a)))
    → (from to n : ℕ) → Fit marks from to n → Fit other (len - to) (len - from) n
turned marks other len over from to zero fit = omega arith
turned marks other len over from to (suc n) (a, e, ge, is, fit) =
    one_behind other (len - to) (len - e) (len - a) (len - from) n (turned marks other len over e to n fit)
    (over a e is)
    (omega arith)

-- the marks that are cut fit into the text
cut_fit : (marks : Marks) (len : ℕ) → Lawful marks len → (from n : ℕ) → from ≤ len → CutTimes marks from n
    → Fit marks from len n
cut_fit marks len law from zero within none = within
cut_fit marks len law from (suc n) within (a, e, least, rest) =
    (a, e, least.after, least.is, cut_fit marks len law e n (law.within a e least.is) rest)

-- No more fit than are cut: the first that is cut begins no later than the first that fits, and as both are as long it
-- ends no later.
no_more : (marks : Marks) (k : ℕ) → AllOfLength k marks → (place from to n c : ℕ) → place ≤ from
    → Fit marks from to n → CutTimes marks place c → n ≤ c
no_more marks k even place from to zero c le fit cut = omega arith
no_more marks k even place from to (suc n) zero le (a, e, ge, is, fit) none = absurd (none a e (omega arith) is)
no_more marks k even place from to (suc n) (suc c) le (a, e, ge, is, fit) (b, d, least, rest) =
    let first = least.least a e (omega arith) is in
    let long = even a e is in
    let cut = even b d least.is in
    omega (arith, no_more marks k even d e to n c (omega arith) fit rest)

module _ (marks : Marks) (len k : ℕ) (law : Lawful marks len) (even : AllOfLength k marks) where
  -- marks that are seen from the end are as long
  mirror-even : AllOfLength k (mirror marks len)
  mirror-even a e m =
      let j = mirrored marks len a e m in
      let long = even _ _ j.is in
      let start = j.start in
      let end = j.end in
      omega arith

  -- as many are cut from the end as from the front
  pub as_many : (n m : ℕ) → CutTimes marks 0 n → CutTimes (mirror marks len) 0 m → m ≡ n
  as_many n m front back =
      let all : len - 0 ≡ len = omega arith in
      let none : len - len ≡ 0 = omega arith in
      let to_front : Fit marks 0 len m =
      rw (all, none) at
      (turned (mirror marks len) marks len (λ a e s. (mirrored marks len a e s).is) 0 len m
      (cut_fit (mirror marks len) len (mirror-lawful marks len law) 0 m (omega arith) back)) in
      let to_back : Fit (mirror marks len) 0 len n =
      rw (all, none) at
      (turned marks (mirror marks len) len
      (λ a e is.
      let long = law.nonempty a e is in
      let in_it = law.within a e is in
      seen marks len a e (omega arith) in_it is)
      0 len n (cut_fit marks len law 0 n (omega arith) front)) in
      omega (
        arith,
        no_more marks k even 0 0 len m n (omega arith) to_front front,
        no_more (mirror marks len) k mirror-even 0 0 len n m (omega arith) to_back back,
      )

module _ (marks : Marks) (len : ℕ) (bound : ℤ) (law : Lawful marks len) (few : (n : ℕ) → Few bound n) where
  -- without a bound greedy cuts are those that a searcher counts
  greedy_times : (made place : ℕ) (ms : List Span) → Greedy marks bound made place ms len
      → CutTimes marks place (length ms)
  greedy_times made place [] g = λ b d from is.
      g.1 (few made) b d is from (omega (arith, law.nonempty b d is, law.within b d is))
  greedy_times made place (m ∷ ms) g = (m.0, m.1, g.0, greedy_times (suc made) m.1 ms g.2)

-- a cutter from the end that has cut nothing has a piece more left than marks are cut from the front
pub back_left : (on : Opening) (k n made : ℕ) → Lawful on.marks (size on) → AllOfLength k on.marks
    → ((n : ℕ) → Few on.bound n) → CutTimes on.marks 0 n → length (left_back on (at 0 made false)) ≡ suc n
back_left on k n made law even few front =
    let end = mirrored_opening on in
    let end-law = mirror-lawful on.marks (size on) law in
    let cut = greedy_cuts on.bound end-law made 0 (omega arith) in
    let back = greedy_times end.marks (size on) on.bound end-law few made 0 (cut_from end made 0) cut in
    let same = as_many on.marks (size on) k law even n _ front back in
    let s = at 0 made false in
    omega (arith, length-map (pieces_left end s) (flip (size on)), length-pieces_left end end-law s refl, same)
