-- What comes in a join from one of its places on, and how many bytes a join can take.
use Rattle.std.proofs.Common.{◌≡◌, ℕ, zero, suc, ◌+◌, ◌-◌, ◌*◌, ◌^◌, ◌<◌, ◌≤◌, List, [], ◌∷◌, ◌++◌, map, length, get_or}
use Rattle.std.proofs.Common.{drop, Some, sym, refl, ap, ◌∙◌, append-nil, suc-mul, mul-le-mul}
use Rattle.std.proofs.Common.{zero-mul, add-one, arith, length-append, length-drop, length-take}
use Rattle.std.specs.List.{concat}
use Rattle.std.proofs.lemmas.List.{drop_more, length-map}
use Rattle.anystr.specs.Elements.{Cut}
use Rattle.anystr.specs.Limits.{most_bytes}
use Rattle.anystr.specs.Places.{stretch, stretches, part, with_between, join_parts}
use Rattle.anystr.specs.declared.place.Place.{Place}
use Rattle.bytesinner.specs.joins.Joins.{most_places, first_bad}
use Rattle.bytesinner.proofs.joins.Places.{passes, stops, part-long}

-- what a list has past its end
abbrev pub nowhere : Place
nowhere = record { start = 0; end = 0 }

-- the bytes of parts with nothing between
abbrev pub bare : List ℕ → List (ℕ × ℕ) → ℕ
bare bytes ps = length (concat (map (part bytes) ps))

-- the place of index i, and those past it
module _ (es : List (List ℕ)) (places : List Place) (i : ℕ) (within : i < length places) where
  abbrev place : Place
  place = get_or places i nowhere

  abbrev past : List (ℕ × ℕ)
  past = stretches (drop (i + 1) places)

  abbrev good : Type 0
  good = Cut es place.start place.end

  here : stretches (drop i places) ≡ stretch place ∷ past
  here = ap stretches (drop_more places i nowhere within)

  pub good_more : good → first_bad es (i + 1) past ≡ first_bad es i (stretches (drop i places))
  good_more cut = sym (rw here (passes es i (stretch place) past cut) ∙ ap (λ n. first_bad es n past) (sym (add-one i)))

  pub bad-here : (good → ⊥) → first_bad es i (stretches (drop i places)) ≡ Some i
  bad-here bad = rw here (stops es i (stretch place) past bad)

  pub bare_more : good
      → bare (concat es) (stretches (drop i places)) ≡ (place.end - place.start) + bare (concat es) past
  bare_more cut =
      let p = part (concat es) (stretch place) in
      let rest = concat (map (part (concat es)) past) in
      rw here (omega (arith, length-append p rest, part-long es place.start place.end cut))

-- parts with the separator ahead of each
abbrev behind : List ℕ → List (List ℕ) → List ℕ
behind sep [] = []
behind sep (x ∷ xs) = sep ++ (x ++ behind sep xs)

-- what comes in a join from the part of index n on
abbrev pub rest_of : List ℕ → ℕ → List (List ℕ) → List ℕ
rest_of sep zero xs = with_between sep xs
rest_of sep (suc n) xs = behind sep xs

-- the first part has no separator ahead
first-ahead : (sep x : List ℕ) (xs : List (List ℕ)) → with_between sep (x ∷ xs) ≡ x ++ behind sep xs
first-ahead sep x [] = sym (append-nil x)
first-ahead sep x (y ∷ xs) = ap (λ r. x ++ (sep ++ r)) (first-ahead sep y xs)

-- how many bytes they have
behind_size : (sep : List ℕ) (xs : List (List ℕ)) → length (behind sep xs) ≡ length (concat xs) + length xs * length sep
behind_size sep [] = omega (arith, zero-mul (length sep))
behind_size sep (x ∷ xs) =
    omega (
      arith,
      behind_size sep xs,
      length-append sep (x ++ behind sep xs),
      length-append x (behind sep xs),
      length-append x (concat xs),
      suc-mul (length xs) (length sep),
    )

-- a separator fewer than there are parts
pub join_size : (sep : List ℕ) (xs : List (List ℕ))
    → length (with_between sep xs) ≡ length (concat xs) + (length xs - 1) * length sep
join_size sep [] = omega (arith, zero-mul (length sep))
join_size sep (x ∷ xs) =
    let count : length (x ∷ xs) - 1 ≡ length xs = omega arith in
    rw (first-ahead, count)
    (omega (arith, behind_size sep xs, length-append x (behind sep xs), length-append x (concat xs)))

-- no part has more bytes than the text
bare_fits : (bytes : List ℕ) (ps : List (ℕ × ℕ)) → bare bytes ps ≤ length ps * length bytes
bare_fits bytes [] = omega (arith, zero-mul (length bytes))
bare_fits bytes (p ∷ ps) =
    omega (
      arith,
      bare_fits bytes ps,
      length-append (part bytes p) (concat (map (part bytes) ps)),
      length-take (p.1 - p.0) (drop p.0 bytes),
      length-drop p.0 bytes,
      suc-mul (length ps) (length bytes),
    )

module _ (sep bytes : List ℕ) (places : List Place) where
  -- the sum that the code forms
  pub join-sum : length (join_parts sep bytes (stretches places))
      ≡ (length places - 1) * length sep + bare bytes (stretches places)
  join-sum =
      let count : length (map (part bytes) (stretches places)) ≡ length places = simp length-map in
      omega (arith, join_size sep (map (part bytes) (stretches places)), ap (λ n. (n - 1) * length sep) count)

  -- the bytes of a join fit 64 bits
  pub join_fits : length sep ≤ most_bytes → length bytes ≤ most_bytes → length places ≤ most_places
      → length (join_parts sep bytes (stretches places)) < 2 ^ 63
  join_fits short few some =
      let parts : length places * length bytes ≤ most_places * most_bytes =
      mul-le-mul {n₂ = most_places} {m₂ = most_bytes} some few in
      let gaps : (length places - 1) * length sep ≤ most_places * most_bytes =
      mul-le-mul {n₂ = most_places} {m₂ = most_bytes} (omega arith) short in
      omega (
        arith,
        join-sum,
        bare_fits bytes (stretches places),
        ap (λ n. n * length bytes) (length-map places stretch),
      )

-- the part of index 0 comes alone, and each later one behind a separator
first : (sep x : List ℕ) (xs : List (List ℕ)) (n : ℕ) → n ≤ 0 → rest_of sep n (x ∷ xs) ≡ x ++ behind sep xs
first sep x xs zero le = first-ahead sep x xs
first sep x xs (suc n) le = absurd (omega arith)

later : (sep x : List ℕ) (xs : List (List ℕ)) (n : ℕ) → 0 < n → rest_of sep n (x ∷ xs) ≡ sep ++ (x ++ behind sep xs)
later sep x xs zero lt = absurd (omega arith)
later sep x xs (suc n) lt = refl

-- what comes from the place of index i on: the separator unless the part is the first, and then the part
module _ (sep bytes : List ℕ) (places : List Place) (i : ℕ) (within : i < length places) where
  abbrev come : ℕ → List ℕ
  come n = rest_of sep n (map (part bytes) (stretches (drop n places)))

  abbrev next : List ℕ
  next = part bytes (stretch (get_or places i nowhere))

  behind-is : behind sep (map (part bytes) (stretches (drop (i + 1) places))) ≡ come (i + 1)
  behind-is = rw add-one refl

  pub first-part : i ≤ 0 → come i ≡ next ++ come (i + 1)
  first-part le = rw (drop_more places i nowhere within, ← behind-is) (first sep next _ i le)

  pub part_more : 0 < i → come i ≡ sep ++ (next ++ come (i + 1))
  part_more lt = rw (drop_more places i nowhere within, ← behind-is) (later sep next _ i lt)
