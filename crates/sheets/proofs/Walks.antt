-- What is shown of a text, element by element.
use Rattle.std.proofs.Common.{◌≡◌, ℕ, ◌+◌, ◌-◌, ◌<◌, ◌≤◌, true, List, [], ◌∷◌, ◌++◌, length, get_or, take, drop, sym}
use Rattle.std.proofs.Common.{refl, ap}
use Rattle.std.proofs.Common.{◌∙◌}
use Rattle.std.proofs.Common.{All, subst, append_assoc, arith, length-append, take-append-drop}
use Rattle.std.specs.List.{concat, prefix_len}
use Rattle.std.proofs.lemmas.List.{append-nil, take_more, take_all}
use Rattle.std.proofs.lemmas.List.Elements.{All-drop}
use Rattle.std.proofs.lemmas.List.Sums.{prefix_len_passes, prefix_len-le-length}
use Rattle.std.proofs.lemmas.List.Folds.{concat-append, length-prefix_len}
use Rattle.std.proofs.Math.Seq.{drop-append_seam, take-add}
use Rattle.anystr.specs.Elements.{offset}
use Rattle.anystr.specs.Places.{part}
use Rattle.anystr.proofs.Boundaries.{cut-joined}
use Rattle.anystr.proofs.Walking.{Element}
use Rattle.sheets.specs.Apart.{IsApart}
use Rattle.sheets.specs.Shown.{is_plain, shown, shown_element}
use Rattle.sheets.proofs.Plain.{Run, run}

shown-append : (xs ys : List (List ℕ)) → shown (xs ++ ys) ≡ shown xs ++ shown ys
shown-append [] ys = refl
shown-append (x ∷ xs) ys =
    ap (λ r. shown_element x ++ r) (shown-append xs ys) ∙ sym (append_assoc (shown_element x) (shown xs) (shown ys))

-- where all elements are gone through, all are shown
pub shown-all : (es : List (List ℕ)) (k : ℕ) (before out : List ℕ) → length es ≤ k
    → out ≡ before ++ shown (take k es) → out ≡ before ++ shown es
shown-all es k before out past was = was ∙ ap (λ xs. before ++ shown xs) (take_all k es past)

module _ (es : List (List ℕ)) (k place len : ℕ) (here : Element es k place len) where
  abbrev this : List ℕ
  this = get_or es k []

  -- the stretch that the code cuts out is the element
  pub cut-is : (bytes : List ℕ) → bytes ≡ concat es → take ((place + len) - place) (drop place bytes) ≡ this
  cut-is bytes is = ap (λ bs. part bs (place, place + len)) is ∙ here.bytes

  -- what is shown up to an element ends with that element
  shown-up_to : shown (take (k + 1) es) ≡ shown (take k es) ++ shown_element this
  shown-up_to =
      let last : shown (this ∷ []) ≡ shown_element this = append-nil (shown_element this) in
      ap shown (take_more es k [] here.within)
      ∙ (shown-append (take k es) (this ∷ []) ∙ ap (λ r. shown (take k es) ++ r) last)

  module _ (x before old : List ℕ) (same : x ≡ this) (was : old ≡ before ++ shown (take k es)) where
    -- one element more is shown
    pub shown-more : (new : List ℕ) → new ≡ old ++ shown_element x → new ≡ before ++ shown (take (k + 1) es)
    shown-more new is =
        let added = ap (λ y. (before ++ shown (take k es)) ++ shown_element y) same in
        let joined = append_assoc before (shown (take k es)) (shown_element this) in
        let more = ap (λ r. before ++ r) (sym shown-up_to) in
        is ∙ (ap (λ o. o ++ shown_element x) was ∙ (added ∙ (joined ∙ more)))

    -- with an element more no more bytes are shown than in all
    pub shown-fits : length old + length (shown_element x) ≤ length before + length (shown es)
    shown-fits =
        let up_to = take (k + 1) es in
        let rest = drop (k + 1) es in
        let whole = ap shown (sym (take-append-drop (k + 1) es)) ∙ shown-append up_to rest in
        let long = ap length whole ∙ length-append (shown up_to) (shown rest) in
        let had = ap length was ∙ length-append before (shown (take k es)) in
        let more = ap length shown-up_to ∙ length-append (shown (take k es)) (shown_element this) in
        omega (arith, long, had, more, ap (λ y. length (shown_element y)) same)

-- the bytes from an element on are those of the elements from there on
bytes-from : (es : List (List ℕ)) (k place : ℕ) (bytes : List ℕ) → place ≡ offset es k → bytes ≡ concat es
    → drop place bytes ≡ concat (drop k es)
bytes-from es k place bytes begins is =
    ap (λ p. drop p bytes) begins
    ∙ (ap (drop (offset es k)) (is ∙ cut-joined k es) ∙ drop-append_seam (concat (take k es)) (concat (drop k es)))

-- of the first elements no more is shown than of all
shown-front : (es : List (List ℕ)) (k : ℕ) → length (shown (take k es)) ≤ length (shown es)
shown-front es k =
    let whole = ap shown (sym (take-append-drop k es)) ∙ shown-append (take k es) (drop k es) in
    omega (arith, ap length whole, length-append (shown (take k es)) (shown (drop k es)))

-- behind some elements stand the bytes `rest`, of which the first are plain
module _ (es : List (List ℕ)) (k place : ℕ) (bytes rest : List ℕ) (begins : place ≡ offset es k)
    (is : bytes ≡ concat es) (cut : rest ≡ drop place bytes) (apart : All IsApart es) where
  abbrev long : ℕ
  long = prefix_len is_plain rest

  same-rest : rest ≡ concat (drop k es)
  same-rest = cut ∙ bytes-from es k place bytes begins is

  run-here : Run long (drop k es)
  run-here = run long (drop k es) (All-drop IsApart k es apart) few plain
    where
      few : long ≤ length (concat (drop k es))
      few = omega (arith, prefix_len-le-length is_plain rest, ap length same-rest)

      plain : (i : ℕ) → i < long → is_plain (get_or (concat (drop k es)) i 0) ≡ true
      plain i lt =
          subst (λ bs. is_plain (get_or bs i 0) ≡ true) same-rest (prefix_len_passes is_plain rest i 0 lt)

  -- they are as many elements
  pub run-next : place + long ≡ offset es (k + long)
  run-next =
      let front = take k es in
      let next = take long (drop k es) in
      let both = ap concat (take-add k long es) ∙ concat-append front next in
      let size = run-here.bytes ∙ ap (take long) (sym same-rest) in
      omega (
        arith,
        begins,
        ap length both,
        length-append (concat front) (concat next),
        ap length size,
        length-prefix_len is_plain rest,
      )

  run-shown : shown (take (k + long) es) ≡ shown (take k es) ++ take long rest
  run-shown =
      ap shown (take-add k long es)
      ∙ (shown-append (take k es) (take long (drop k es))
      ∙ ap (λ r. shown (take k es) ++ r) (run-here.same ∙ ap (take long) (sym same-rest)))

  module _ (before old : List ℕ) (was : old ≡ before ++ shown (take k es)) where
    -- they are shown as they are
    pub run-more : (new : List ℕ) → new ≡ old ++ take long rest → new ≡ before ++ shown (take (k + long) es)
    run-more new added =
        added
        ∙ (ap (λ o. o ++ take long rest) was
        ∙ (append_assoc before (shown (take k es)) (take long rest) ∙ ap (λ r. before ++ r) (sym run-shown)))

    -- with them no more bytes are shown than in all
    pub run-fits : length old + long ≤ length before + length (shown es)
    run-fits =
        let more = ap length run-shown ∙ length-append (shown (take k es)) (take long rest) in
        omega (
          arith,
          more,
          shown-front es (k + long),
          length-prefix_len is_plain rest,
          ap length was ∙ length-append before (shown (take k es)),
        )
