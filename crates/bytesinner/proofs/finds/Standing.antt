-- Where a needle stands, by the definitions and by what a search of a part answers.
use Rattle.std.proofs.Common.{◌≡◌, ℕ, suc, ◌+◌, ◌-◌, ◌<◌, ◌≤◌, Bool, true, false, cond, IsTrue, leb, List, [], ◌∷◌}
use Rattle.std.proofs.Common.{length}
use Rattle.std.proofs.Common.{take, drop, Some, None, Option, sym, refl, ap, ◌∙◌, ⊎_elim, le_refl, arith, length-take}
use Rattle.std.specs.Option.{option_or}
use Rattle.std.proofs.lemmas.List.{take-take, nil_from_length}
use Rattle.std.proofs.lemmas.Bool.{both_ways, cases_eq, cond_both, leb-true, leb-false, lt-ltb, eq-eqb, and_from}
use Rattle.anystr.specs.OfBytes.{occurs-within}
use Rattle.searchers.specs.Marks.{Least, Greatest, NoneFrom, NoneBefore}
use Rattle.searchers.specs.substring.Occurrences.{begins_with, occurrence, occurrence-is, taken}
use Rattle.searchers.proofs.substring.Needles.{begun}
use Rattle.anystr.specs.Places.{part}
use Rattle.bytesinner.specs.finds.Places.{first_place, last_place, find_of, rfind_of, Stands, Nowhere, PlaceBy}
use Rattle.bytesinner.specs.finds.Places.{FirstPlace, LastPlace}
use Rattle.bytesinner.proofs.finds.Parts.{length_part, drop-part}

module _ (bs n : List ℕ) (b : ℕ) (within : b ≤ length bs) where
  -- the needle stands at p exactly where the part from p on begins with it
  stands : (a p : ℕ) → a ≤ p → p ≤ b → begins_with n (part bs (p, b)) ≡ true → Stands bs n a b p
  stands a p from to h =
      let t = taken n (part bs (p, b)) h in
      let fits : length n ≤ b - p =
      omega (arith, ap length t, length-take (length n) (part bs (p, b)), length_part bs p b within) in
      record { after = from; ahead = omega arith; occurs = sym (take-take (length n) (b - p) (drop p bs) fits) ∙ t }

  stood : (a p : ℕ) → Stands bs n a b p → begins_with n (part bs (p, b)) ≡ true
  stood a p s =
      let fits : length n ≤ b - p = omega (arith, s.ahead) in
      begun n (part bs (p, b)) (take-take (length n) (b - p) (drop p bs) fits ∙ s.occurs)

  -- a place from suc a on is one from a on, and one from a on that is not a is one from suc a on
  wider : (a p : ℕ) → Stands bs n (suc a) b p → Stands bs n a b p
  wider a p s = record { after = omega (arith, s.after); ahead = s.ahead; occurs = s.occurs }

  further : (a p : ℕ) → (a ≡ p → ⊥) → Stands bs n a b p → Stands bs n (suc a) b p
  further a p other s = record { after = omega (arith, s.after); ahead = s.ahead; occurs = s.occurs }

  not_here : (a p : ℕ) → begins_with n (part bs (a, b)) ≡ false → Stands bs n a b p → a ≡ p → ⊥
  not_here a p fails s e =
      both_ways (begins_with n (part bs (a, b))) fails (ap (λ q. begins_with n (part bs (q, b))) e ∙ stood a p s)

  -- the first place, where r is the first one from suc a on
  turn : (a : ℕ) → a ≤ b → (r : Option ℕ) → FirstPlace bs n (suc a) b r → (t : Bool)
      → begins_with n (part bs (a, b)) ≡ t → FirstPlace bs n a b (option_or (cond t (Some a) None) r)
  turn a le r f true is = (stands a a (le_refl a) le is, λ q s. s.after)
  turn a le None f false is = λ p s. f p (further a p (not_here a p is s) s)
  turn a le (Some p) f false is = (wider a p f.0, λ q s. f.1 q (further a q (not_here a q is s) s))

  -- the last place, where r is the last one from suc a on
  turn_back : (a : ℕ) → a ≤ b → (r : Option ℕ) → LastPlace bs n (suc a) b r → (t : Bool)
      → begins_with n (part bs (a, b)) ≡ t → LastPlace bs n a b (option_or r (cond t (Some a) None))
  turn_back a le (Some p) f t is = (
    wider a p f.0,
    λ q s. ⊎_elim (λ e. omega (arith, f.0.after)) (λ other. f.1 q (further a q other s)) (cases_eq a q),
  )
  turn_back a le None f true is = (
    stands a a (le_refl a) le is,
    λ q s. ⊎_elim (λ e. omega arith) (λ other. absurd (f q (further a q other s))) (cases_eq a q),
  )
  turn_back a le None f false is = λ p s. f p (further a p (not_here a p is s) s)

  -- it stands nowhere from past b on
  nowhere-further : (a : ℕ) → b < a → Nowhere bs n a b
  nowhere-further a past p s = omega (arith, s.after, s.ahead)

  -- the part from the next offset on
  tail : (x : ℕ) (xs : List ℕ) (a : ℕ) → x ∷ xs ≡ part bs (a, b) → (suc a ≤ b) × (xs ≡ part bs (suc a, b))
  tail x xs a e =
      let lt : a + 1 ≤ b = omega (arith, ap length e, length_part bs a b within) in
      let s : a + 1 ≡ suc a = omega arith in
      (omega arith, ap (drop 1) e ∙ (drop-part bs a b 1 lt ∙ ap (λ k. part bs (k, b)) s))

  -- what the definitions give of the part from a on
  first_place-from : (xs : List ℕ) (a : ℕ) → a ≤ b → xs ≡ part bs (a, b) → FirstPlace bs n a b (first_place n xs a)
  first_place-from [] a le e =
      let past : b < suc a = omega (arith, ap length e, length_part bs a b within) in
      let both = turn a le None (nowhere-further (suc a) past) in
      cond_both (begins_with n []) (Some a) None (FirstPlace bs n a b)
      (λ t. both true (ap (begins_with n) (sym e) ∙ t))
      (λ t. both false (ap (begins_with n) (sym e) ∙ t))
  first_place-from (x ∷ xs) a le e =
      let t = tail x xs a e in
      turn a le (first_place n xs (suc a)) (first_place-from xs (suc a) t.0 t.1) (begins_with n (x ∷ xs))
      (ap (begins_with n) (sym e))

  last_place-from : (xs : List ℕ) (a : ℕ) → a ≤ b → xs ≡ part bs (a, b) → LastPlace bs n a b (last_place n xs a)
  last_place-from [] a le e =
      let past : b < suc a = omega (arith, ap length e, length_part bs a b within) in
      turn_back a le None (nowhere-further (suc a) past) (begins_with n []) (ap (begins_with n) (sym e))
  last_place-from (x ∷ xs) a le e =
      let t = tail x xs a e in
      turn_back a le (last_place n xs (suc a)) (last_place-from xs (suc a) t.0 t.1) (begins_with n (x ∷ xs))
      (ap (begins_with n) (sym e))

  -- the definitions keep the laws
  find_first : (a : ℕ) → FirstPlace bs n a b (find_of bs n a b)
  find_first a =
      cond_both (leb a b) _ _ (FirstPlace bs n a b)
      (λ t. first_place-from (part bs (a, b)) a (leb-true a b t) refl)
      (λ t. nowhere-further a (leb-false a b t))

  rfind_last : (a : ℕ) → LastPlace bs n a b (rfind_of bs n a b)
  rfind_last a =
      cond_both (leb a b) _ _ (LastPlace bs n a b)
      (λ t. last_place-from (part bs (a, b)) a (leb-true a b t) refl)
      (λ t. nowhere-further a (leb-false a b t))

  -- and only their values do
  one_place : (IsSo : ℕ → ℕ → Type 0) → ((p q : ℕ) → IsSo p q → IsSo q p → p ≡ q) → (a : ℕ) (r q : Option ℕ)
      → PlaceBy IsSo bs n a b r → PlaceBy IsSo bs n a b q → r ≡ q
  one_place IsSo same a None None f g = refl
  one_place IsSo same a None (Some q) f g = absurd (f q g.0)
  one_place IsSo same a (Some p) None f g = absurd (g p f.0)
  one_place IsSo same a (Some p) (Some q) f g = ap Some (same p q (f.1 q g.0) (g.1 p f.0))

  pub first-is : (a : ℕ) (r : Option ℕ) → FirstPlace bs n a b r → r ≡ find_of bs n a b
  first-is a r f = one_place (λ p q. p ≤ q) (λ p q le ge. omega arith) a r (find_of bs n a b) f (find_first a)

  pub last-is : (a : ℕ) (r : Option ℕ) → LastPlace bs n a b r → r ≡ rfind_of bs n a b
  last-is a r f = one_place (λ p q. q ≤ p) (λ p q ge le. omega arith) a r (rfind_of bs n a b) f (rfind_last a)

  -- an empty needle stands at both ends
  empty-at : (a p : ℕ) → a ≤ p → p ≤ b → length n ≡ 0 → Stands bs n a b p
  empty-at a p from to none =
      let nil : n ≡ [] = nil_from_length n none in
      record { after = from; ahead = omega arith; occurs = ap (λ k. take (length k) (drop p bs)) nil ∙ sym nil }

  pub empty-first : (a : ℕ) → a ≤ b → length n ≡ 0 → FirstPlace bs n a b (Some a)
  empty-first a le none = (empty-at a a (le_refl a) le none, λ q s. s.after)

  pub empty-last : (a : ℕ) → a ≤ b → length n ≡ 0 → LastPlace bs n a b (Some b)
  empty-last a le none = (empty-at a b le (le_refl b) none, λ q s. omega (arith, s.ahead))

  -- what a search of the part answers
  module _ (a : ℕ) (le : a ≤ b) where
    -- a place is a mark of the part
    marked : (p : ℕ) → 0 < length n → Stands bs n a b p
        → IsTrue (occurrence n (part bs (a, b)) (p - a) ((p - a) + length n))
    marked p some s =
        let back : a + (p - a) ≡ p = omega (arith, s.after) in
        let rest = drop-part bs a b (p - a) (omega (arith, s.after, s.ahead)) ∙ ap (λ q. part bs (q, b)) back in
        let begins = ap (begins_with n) rest ∙ stood a p s in
        (and_from _ _ (lt-ltb 0 (length n) some) (and_from _ _ (eq-eqb _ _ refl) begins))

    -- and a mark of the part is a place
    at_mark : (s e : ℕ) → IsTrue (occurrence n (part bs (a, b)) s e) → Stands bs n a b (a + s)
    at_mark s e m =
        let o = occurrence-is n (part bs (a, b)) s e m in
        let fits : a + s ≤ b =
        omega (arith, occurs-within (part bs (a, b)) n s o.nonempty o.occurs, length_part bs a b within) in
        stands a (a + s) (omega arith) fits (ap (begins_with n) (sym (drop-part bs a b s fits)) ∙ o.begins)

    pub found : (s e : ℕ) → Least (occurrence n (part bs (a, b))) 0 s e → FirstPlace bs n a b (Some (a + s))
    found s e l =
        let o = occurrence-is n (part bs (a, b)) s e l.is in
        (at_mark s e l.is, λ q t. omega (arith, l.least (q - a) _ (omega arith) (marked q o.nonempty t), t.after))

    pub found_back : (s e : ℕ) → Greatest (occurrence n (part bs (a, b))) (b - a) s e
        → LastPlace bs n a b (Some (a + s))
    found_back s e l =
        let o = occurrence-is n (part bs (a, b)) s e l.is in (
          at_mark s e l.is,
          λ q t. omega (
            arith,
            l.greatest (q - a) _ (omega (arith, t.after, t.ahead)) (marked q o.nonempty t),
            t.after,
            o.end,
          ),
        )

    pub not_found : 0 < length n → NoneFrom (occurrence n (part bs (a, b))) 0 → Nowhere bs n a b
    not_found some none p s = none (p - a) _ (omega arith) (marked p some s)

    pub not_found_back : 0 < length n → NoneBefore (occurrence n (part bs (a, b))) (b - a) → Nowhere bs n a b
    not_found_back some none p s = none (p - a) _ (omega (arith, s.after, s.ahead)) (marked p some s)
