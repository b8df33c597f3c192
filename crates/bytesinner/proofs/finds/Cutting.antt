-- The number of cuts, by what a search answers and by the rule of a cutter.
use Rattle.std.proofs.Common.{◌≡◌, ℕ, zero, suc, ◌+◌, ◌<◌, ◌≤◌, leb, List, [], ◌∷◌, length}
use Rattle.std.proofs.Common.{refl, sym, ap, ◌∙◌, subst, arith}
use Rattle.std.proofs.lemmas.List.{nil_from_length}
use Rattle.std.proofs.lemmas.Bool.{le-leb, lt-leb, cond-true, cond-false, leb-false, cond_both}
use Rattle.searchers.specs.Marks.{Span, CutTimes}
use Rattle.searchers.specs.substring.Occurrences.{occurrence, occurrence-lawful}
use Rattle.cuts.specs.Cuts.{cut_from}
use Rattle.cuts.specs.Runs.{CutRule}
use Rattle.cuts.proofs.Found.{cut_found, none_found}
use Rattle.cuts.proofs.Greedy.{greedy_rule}
use Rattle.cuts.proofs.Listed.{greedy_cuts}
use Rattle.cuts.proofs.Reach.{to_the_end, length-marks_of}
use Rattle.bytesinner.specs.Openings.{unbounded, opening_at}
use Rattle.bytesinner.specs.finds.Counts.{times, count_of, CutUp, Number}
use Rattle.anystr.specs.Places.{part}
use Rattle.bytesinner.proofs.finds.Parts.{length_part}

-- as many cuts are still to be made from a place on as marks are cut from there
cuts-are : (n bs : List ℕ) (made place k : ℕ) → CutTimes (occurrence n bs) place k
    → length (cut_from (opening_at bs n unbounded) made place) ≡ k
cuts-are n bs made place zero none =
    ap length (none_found (opening_at bs n unbounded) (occurrence-lawful n bs) made place none)
cuts-are n bs made place (suc k) (s, e, least, rest) =
    ap length (cut_found (opening_at bs n unbounded) (occurrence-lawful n bs) made place s e refl least)
    ∙ ap suc (cuts-are n bs (suc made) e k rest)

-- so many times the needle is cut
times-are : (n bs : List ℕ) (k : ℕ) → 0 < length n → CutTimes (occurrence n bs) 0 k → k ≡ times n bs
times-are [] bs k some cut = absurd (omega arith)
times-are (x ∷ n) bs k some cut = sym (cuts-are (x ∷ n) bs 0 0 k cut)

-- the cuts cut up the bytes
cut_up : (n bs : List ℕ) → CutUp n bs (length (cut_from (opening_at bs n unbounded) 0 0))
cut_up n bs =
    let law = occurrence-lawful n bs in
    let end = to_the_end (opening_at bs n unbounded) law in
    let rule = greedy_rule unbounded law _ (length bs) (greedy_cuts unbounded law 0 0 (omega arith)) in
    record {
      row = end.0;
      tail = end.1;
      lie = end.3;
      rule = subst (λ (cut : List Span). CutRule (occurrence n bs) unbounded (length bs) cut) end.2 rule;
      number = sym (ap length end.2 ∙ length-marks_of end.0);
    }

-- the count of an empty needle, and of one that is not
pub count-empty : (bs n : List ℕ) (a b : ℕ) → a ≤ b → length n ≡ 0 → length (part bs (a, b)) + 1 ≡ count_of bs n a b
count-empty bs [] a b le none = omega (arith, cond-true (leb a b) (suc (length (part bs (a, b)))) 0 (le-leb a b le))
count-empty bs (x ∷ n) a b le none = absurd (omega arith)

pub count-part : (bs n : List ℕ) (a b k : ℕ) → a ≤ b → 0 < length n → CutTimes (occurrence n (part bs (a, b))) 0 k
    → k ≡ count_of bs n a b
count-part bs n a b k le some cut =
    times-are n (part bs (a, b)) k some cut ∙ sym (cond-true (leb a b) (times n (part bs (a, b))) 0 (le-leb a b le))

-- the definition keeps the law
number : (bs n : List ℕ) (a b : ℕ) → b ≤ length bs → Number bs n a b (count_of bs n a b)
number bs [] a b within = (
  λ le. cond-true (leb a b) _ _ (le-leb a b le) ∙ ap suc (length_part bs a b within),
  λ past. cond-false (leb a b) _ _ (lt-leb a b past),
)
number bs (x ∷ n) a b within =
    let here = part bs (a, b) in
    let cut = cut_up (x ∷ n) here in
    let no_byte : b < a → here ≡ [] = λ past. nil_from_length here (omega (arith, length_part bs a b within)) in
    cond_both (leb a b) (times (x ∷ n) here) 0 (CutUp (x ∷ n) here)
    (λ _. cut)
    (λ past. subst (CutUp (x ∷ n) here) (ap (times (x ∷ n)) (no_byte (leb-false a b past))) cut)

-- so does an answer by it
pub number_is : (bs n : List ℕ) (a b k : ℕ) → b ≤ length bs → k ≡ count_of bs n a b → Number bs n a b k
number_is bs n a b k within is = subst (λ (m : ℕ). Number bs n a b m) (sym is) (number bs n a b within)
