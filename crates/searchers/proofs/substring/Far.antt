-- What a search of the rest of some bytes, or of their front, finds of a needle.
use Rattle.std.proofs.Common.{◌≡◌, ℕ, ◌+◌, ◌-◌, ◌<◌, ◌≤◌, IsTrue, List, Option, None, Some, MatchOption, length, take}
use Rattle.std.proofs.Common.{drop}
use Rattle.std.proofs.Common.{refl, sym, ap, ◌∙◌, ⊎_elim, arith, length-drop, length-take}
use Rattle.std.proofs.lemmas.Bool.{cases_lt}
use Rattle.std.specs.List.{slice_range}
use Rattle.std.proofs.lemmas.List.{take-take, take_rest, drop-take, drop-drop}
use Rattle.memchr.specs.Find.{OccursAt, FindsNeedle, FindsLastNeedle}
use Rattle.memchr.proofs.lemmas.MatchLemmas.{OccursAt-part, OccursAt-from_part}
use Rattle.searchers.specs.Marks.{Least, Greatest, NoneFrom, NoneBefore}
use Rattle.searchers.specs.substring.Occurrences.{occurrence, occurrence-is, fits}
use Rattle.searchers.proofs.substring.Needles.{stood}

module _ (n bs : List ℕ) (some : 0 < length n) where
  module _ (from : ℕ) (rest : List ℕ) (cut : rest ≡ slice_range bs from (length bs)) where
    is : rest ≡ drop from bs
    is = cut ∙ take_rest bs from

    -- what stands in the rest stands so much further on in the whole
    same : (i : ℕ) → take (length n) (drop i rest) ≡ take (length n) (drop (from + i) bs)
    same i = ap (λ xs. take (length n) (drop i xs)) is ∙ ap (take (length n)) (drop-drop i from bs)

    mark : (i : ℕ) → OccursAt rest n i → IsTrue (occurrence n bs (from + i) (from + i + length n))
    mark i o = stood n bs (from + i) (from + i + length n) some refl (sym (same i) ∙ OccursAt-part rest n i o)

    in_rest : (b e : ℕ) → from ≤ b → IsTrue (occurrence n bs b e) → OccursAt rest n (b - from)
    in_rest b e ge m =
        let within = fits n bs b e m in
        let there : from + (b - from) ≡ b = omega arith in
        let room : b - from + length n ≤ length rest = omega (arith, ap length is, length-drop from bs) in
        OccursAt-from_part rest n (b - from) room
        (same (b - from) ∙ (ap (λ p. take (length n) (drop p bs)) there ∙ (occurrence-is n bs b e m).occurs))

    pub found : (r : Option ℕ) → FindsNeedle rest n 0 r
        → MatchOption r (NoneFrom (occurrence n bs) from)
        (λ i. Least (occurrence n bs) from (from + i) (from + i + length n))
    found None none = λ b e ge m.
        let o = in_rest b e ge m in
        none (b - from) (omega arith) (omega (arith, o.fits)) o
    found (Some i) h = record {
      after = omega arith;
      is = mark i h.1;
      least = λ b e ge m.
          ⊎_elim (λ lt. absurd (h.0.before (b - from) (omega arith) (omega arith) (in_rest b e ge m))) (λ le. le)
          (cases_lt b (from + i));
    }

  module _ (end : ℕ) (front : List ℕ) (cut : front ≡ slice_range bs 0 end) where
    up_to : front ≡ take end bs
    up_to = let whole : end - 0 ≡ end = omega arith in cut ∙ ap (λ k. take k bs) whole

    same_ahead : (i : ℕ) → i + length n ≤ end → take (length n) (drop i front) ≡ take (length n) (drop i bs)
    same_ahead i fit =
        let back : drop i (take (i + (end - i)) bs) ≡ take (end - i) (drop i bs) = drop-take i (end - i) bs in
        let whole : i + (end - i) ≡ end = omega arith in
        ap (λ xs. take (length n) (drop i xs)) up_to
        ∙ (ap (λ k. take (length n) (drop i (take k bs))) (sym whole)
        ∙ (ap (take (length n)) back ∙ take-take (length n) (end - i) (drop i bs) (omega arith)))

    within : length front ≤ end
    within = omega (arith, ap length up_to, length-take end bs)

    mark_ahead : (i : ℕ) → OccursAt front n i → IsTrue (occurrence n bs i (i + length n))
    mark_ahead i o =
        let fit : i + length n ≤ end = omega (arith, within, o.fits) in
        stood n bs i (i + length n) some refl (sym (same_ahead i fit) ∙ OccursAt-part front n i o)

    in_front : (b e : ℕ) → e ≤ end → IsTrue (occurrence n bs b e) → OccursAt front n b
    in_front b e le m =
        let fit = fits n bs b e m in
        let room : b + length n ≤ length front = omega (arith, ap length up_to, length-take end bs) in
        OccursAt-from_part front n b room (same_ahead b (omega arith) ∙ (occurrence-is n bs b e m).occurs)

    pub found_back : (r : Option ℕ) → FindsLastNeedle front n r
        → MatchOption r (NoneBefore (occurrence n bs) end) (λ i. Greatest (occurrence n bs) end i (i + length n))
    found_back None none = λ b e le m.
        let o = in_front b e le m in
        none b (omega arith) (omega (arith, o.fits)) o
    found_back (Some i) h = record {
      ahead = omega (arith, within, h.1.fits);
      is = mark_ahead i h.1;
      greatest = λ b e le m.
          let fit = fits n bs b e m in
          let o = in_front b e le m in
          ⊎_elim (λ lt. absurd (h.0.after b (omega arith) (omega (arith, o.fits)) o)) (λ ge. ge)
          (cases_lt (i + length n) e);
    }
