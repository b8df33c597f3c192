-- What is found from one offset on, and where no mark begins before it.
use Rattle.std.proofs.Common.{◌≡◌, ℕ, ◌+◌, ◌-◌, ◌<◌, ◌≤◌, List, Option, Some, None, arith, ⊎_elim, ap, ◌∙◌, sym}
use Rattle.std.proofs.lemmas.Bool.{cases_lt}
use Rattle.std.specs.Int.{bit_at}
use Rattle.std.proofs.lemmas.Nat.Bits.{bit_at_above}
use Rattle.searchers.specs.declared.mark.Mark.{Mark}
use Rattle.searchers.specs.declared.seen.Seen.{Seen}
use Rattle.searchers.specs.declared.seen.SeenBack.{SeenBack}
use Rattle.searchers.specs.Marks.{Marks, Bounded, Lawful, Finds, FindsBack, OnBoundaries}
use Rattle.searchers.specs.Seen.{Begins, IsSeenOf, MayBegin, NoneBegins, Rest}
use Rattle.searchers.specs.Seen.{Ends, FindsBackWithin, IsSeenBackOf, MayEnd, NoneEnds, RestBack}

-- what is found of marks that lie on boundaries lies on boundaries
pub found_on : (es : List (List ℕ)) (marks : Marks) (from : ℕ) (r : Option Mark) → Bounded es marks
    → Finds marks from r → OnBoundaries es r
found_on es marks from None on none = tt
found_on es marks from (Some m) on found = on m.start m.end found.is

pub found_back_on : (es : List (List ℕ)) (marks : Marks) (before : ℕ) (r : Option Mark) → Bounded es marks
    → FindsBack marks before r → OnBoundaries es r
found_back_on es marks before None on none = tt
found_back_on es marks before (Some m) on found = on m.start m.end found.is

-- what a search from a later offset finds, where no mark begins before it
pub found_later : (marks : Marks) (from at : ℕ) (r : Option Mark) → from ≤ at → NoneBegins marks from at
    → Finds marks at r → Finds marks from r
found_later marks from at None le clear none = λ b d ge m.
    ⊎_elim (λ lt. clear b d ge lt m) (λ past. none b d past m) (cases_lt b at)
found_later marks from at (Some m) le clear found = record {
  after = omega (arith, found.after);
  is = found.is;
  least = λ b d ge t.
      ⊎_elim (λ lt. absurd (clear b d ge lt t)) (λ past. found.least b d past t) (cases_lt b at);
}

-- no mark begins up to an offset and on from there
pub none_further : (marks : Marks) (from at end : ℕ) → NoneBegins marks from at → NoneBegins marks at end
    → NoneBegins marks from end
none_further marks from at end front back b d ge lt m =
    ⊎_elim (λ before. front b d ge before m) (λ past. back b d past lt m) (cases_lt b at)

-- where no mark begins up to the end of the text, none is found
pub none_to_end : (marks : Marks) (from end len : ℕ) → Lawful marks len → len ≤ end → NoneBegins marks from end
    → Finds marks from None
none_to_end marks from end len law past none b d ge m =
    let some = law.nonempty b d m in let within = law.within b d m in none b d ge (omega arith) m

-- 64 bits tell of no offset past as many
pub whole_begins : (marks : Marks) (at bits : ℕ) → bits < 18446744073709551616 → MayBegin marks at (at + 64) bits
    → Begins marks at (at + 64) bits
whole_begins marks at bits fits may = record {
  may = may;
  below = λ k set.
      ⊎_elim (λ lt. omega arith) (λ past. absurd (omega (arith, bit_at_above bits 64 k fits past))) (cases_lt k 64);
}

-- what was seen tells of the offsets that are left from one on
pub rest_begins : (marks : Marks) (seen : Seen) (from bits : ℕ) → IsSeenOf marks seen → Rest seen from bits
    → Begins marks from (seen.at + 64) bits
rest_begins marks seen from bits is rest = record {
  may = λ b e ge lt m.
      let low = rest.low in
      let there : from - seen.at + (b - from) ≡ b - seen.at = omega arith in
      rest.moved (b - from) ∙ (ap (bit_at seen.bits) there ∙ is.may b e (omega arith) lt m);
  below = λ k set.
      let low = rest.low in
      let under = is.below (from - seen.at + k) (sym (rest.moved k) ∙ set) in
      omega arith;
}

-- what a search before an earlier offset finds, where no mark ends after it
pub found_earlier : (marks : Marks) (before to : ℕ) (r : Option Mark) → to ≤ before → NoneEnds marks to before
    → FindsBack marks to r → FindsBack marks before r
found_earlier marks before to None le clear none = λ b d ge m.
    ⊎_elim (λ past. clear b d past ge m) (λ within. none b d within m) (cases_lt to d)
found_earlier marks before to (Some m) le clear found = record {
  ahead = omega (arith, found.ahead);
  is = found.is;
  greatest = λ b d ge t.
      ⊎_elim (λ past. absurd (clear b d past ge t)) (λ within. found.greatest b d within t) (cases_lt to d);
}

-- what is found after the start of the text is what a search finds
pub found_to_start : (marks : Marks) (len to : ℕ) (r : Option Mark) → Lawful marks len → FindsBackWithin marks 0 to r
    → FindsBack marks to r
found_to_start marks len to None law none = λ b d le m.
    let some = law.nonempty b d m in none b d (omega arith) le m
found_to_start marks len to (Some m) law found = found

-- no mark ends after an offset and up to there
pub none_back : (marks : Marks) (at to before : ℕ) → NoneEnds marks to before → NoneEnds marks at to
    → NoneEnds marks at before
none_back marks at to before front back b d ge le m =
    ⊎_elim (λ past. front b d past le m) (λ within. back b d ge within m) (cases_lt to d)

-- no mark ends past the text
pub none_past : (marks : Marks) (len before to : ℕ) → Lawful marks len
    → ((e : ℕ) → e ≤ before → e ≤ len → e ≤ to) → NoneEnds marks to before
none_past marks len before to law short b e past le m = omega (arith, short e le (law.within b e m))

-- 64 bits tell of no offset past as many
pub whole_ends : (marks : Marks) (at to bits : ℕ) → at + 64 ≡ to → bits < 18446744073709551616
    → MayEnd marks at bits → Ends marks at to bits
whole_ends marks at to bits there fits may = record {
  may = λ b e ge le m. may b e ge (omega arith) m;
  below = λ k set.
      ⊎_elim (λ lt. omega arith) (λ past. absurd (omega (arith, bit_at_above bits 64 k fits past))) (cases_lt k 64);
}

-- what was seen from the end tells of the offsets up to one of them
pub rest_ends : (marks : Marks) (seen : SeenBack) (to bits : ℕ) → IsSeenBackOf marks seen → RestBack seen to bits
    → Ends marks seen.at to bits
rest_ends marks seen to bits is rest = record {
  may = λ b e ge le m.
      let near = rest.near in rest.kept (e - seen.at - 1) (omega arith) ∙ is b e ge (omega arith) m;
  below = rest.below;
}
