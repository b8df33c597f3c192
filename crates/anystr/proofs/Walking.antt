-- Going through a text element by element.
use Rattle.std.proofs.Common.{◌≡◌, ℕ, ◌+◌, ◌-◌, ◌<◌, ◌≤◌, List, [], ◌∷◌, ◌++◌, length, get_or, take, drop, Some, None}
use Rattle.std.proofs.Common.{sym, refl, ap, ◌∙◌, ⊎_elim, arith, length-append}
use Rattle.std.specs.List.{concat}
use Rattle.std.proofs.lemmas.List.{append-nil, take_more, drop_more, take_all, take_rest, drop_at}
use Rattle.std.proofs.lemmas.List.Folds.{concat-append}
use Rattle.std.proofs.lemmas.Bool.{cases_lt}
use Rattle.anystr.specs.Elements.{offset, element_at, Filled, Cut, Part}
use Rattle.anystr.specs.Places.{part}
use Rattle.anystr.proofs.Begins.{filled_at, begins, none-begins}
use Rattle.anystr.proofs.Boundaries.{offset-within, cut-joined}
use Rattle.anystr.proofs.Parts.{concat-part}

-- an element has a byte at least
pub count-within : (es : List (List ℕ)) → Filled es → length es ≤ length (concat es)
count-within [] f = omega arith
count-within (e ∷ es) f = omega (arith, f.0, count-within es f.1, length-append e (concat es))

-- the next element begins behind this one
offset-more : (es : List (List ℕ)) (k : ℕ) → k < length es → offset es (k + 1) ≡ offset es k + length (get_or es k [])
offset-more es k h =
    let e = get_or es k [] in
    let front = concat (take k es) in
    let joined = concat-append (take k es) (e ∷ []) ∙ ap (λ r. front ++ r) (append-nil e) in
    ap (λ xs. length (concat xs)) (take_more es k [] h) ∙ (ap length joined ∙ length-append front e)

-- past the last element the offset stays
pub offset-all : (es : List (List ℕ)) (k : ℕ) → length es ≤ k → offset es k ≡ length (concat es)
offset-all es k h = ap (λ xs. length (concat xs)) (take_all k es h)

none-at_end : (es : List (List ℕ)) (k : ℕ) → Filled es → length es ≤ k → element_at es (offset es k) ≡ None
none-at_end es k f h = none-begins es (offset es k) before
  where
    before : (j : ℕ) → j < length es → ¬ (offset es j ≡ offset es k)
    before j lt same =
        omega (arith, offset-all es k h, offset-more es j lt, filled_at es j f lt, offset-within es (j + 1))

-- the bytes of one element
element_bytes : (es : List (List ℕ)) (k : ℕ) → k < length es
    → part (concat es) (offset es k, offset es (k + 1)) ≡ get_or es k []
element_bytes es k h = sym (concat-part es (e ∷ []) (offset es k) (offset es (k + 1)) one) ∙ append-nil e
  where
    e : List ℕ
    e = get_or es k []

    count : 1 ≡ (k + 1) - k
    count = omega arith

    one : Part es (e ∷ []) (offset es k) (offset es (k + 1))
    one = record {
      from = k;
      to = k + 1;
      order = omega arith;
      start = refl;
      end = refl;
      is = ap (λ xs. take 1 xs) (sym (drop_more es k [] h)) ∙ ap (λ m. take m (drop k es)) count;
    }

-- the bytes of the elements from one on
pub rest-bytes : (es : List (List ℕ)) (k : ℕ) → part (concat es) (offset es k, length (concat es)) ≡ concat (drop k es)
rest-bytes es k =
    let front = concat (take k es) in
    let rest = concat (drop k es) in
    take_rest (concat es) (offset es k)
    ∙ (ap (drop (offset es k)) (cut-joined k es) ∙ drop_at front rest (offset es k) refl)

-- the element of index k, which begins at this place
pub record Element (es : List (List ℕ)) (k place len : ℕ) : Type 0 where
  pub within : k < length es
  pub some : 0 < len
  pub next : place + len ≡ offset es (k + 1)
  pub few : place + len ≤ length (concat es)
  pub cut : Cut es place (place + len)
  pub bytes : part (concat es) (place, place + len) ≡ get_or es k []

element : (es : List (List ℕ)) (k place len : ℕ) → Filled es → k < length es → place ≡ offset es k
    → len ≡ length (get_or es k []) → Element es k place len
element es k place len f h o l =
    let next : place + len ≡ offset es (k + 1) = omega (arith, offset-more es k h) in
    let from = ap (λ a. part (concat es) (a, place + len)) o in
    let to = ap (λ b. part (concat es) (offset es k, b)) next in
    record {
      within = h;
      some = omega (arith, filled_at es k f h);
      next = next;
      few = omega (arith, offset-within es (k + 1));
      cut = record { order = omega arith; start = (k, sym o); end = (k + 1, sym next) };
      bytes = from ∙ (to ∙ element_bytes es k h);
    }

-- an element begins where the walk stands
pub element_here : (es : List (List ℕ)) (k place len : ℕ) (e : List ℕ) → Filled es → place ≡ offset es k
    → Some e ≡ element_at es place → len ≡ length e → Element es k place len
element_here es k place len e f o is l =
    let at : element_at es (offset es k) ≡ Some e = ap (element_at es) (sym o) ∙ sym is in
    ⊎_elim
    (λ lt.
    let same : get_or es k [] ≡ e = let b = begins es k f lt in cc in
    element es k place len f lt o (l ∙ ap length (sym same)))
    (λ ge. let none = none-at_end es k f ge in let z : ◌≡◌ {A = ℕ} 0 1 = cc in absurd (omega arith))
    (cases_lt k (length es))

-- where none begins the walk is over
pub none_here : (es : List (List ℕ)) (k place : ℕ) → Filled es → place ≡ offset es k → None ≡ element_at es place
    → length es ≤ k
none_here es k place f o is =
    let at : element_at es (offset es k) ≡ None = ap (element_at es) (sym o) ∙ sym is in
    ⊎_elim
    (λ lt. let b = begins es k f lt in let z : ◌≡◌ {A = ℕ} 0 1 = cc in absurd (omega arith))
    (λ ge. ge)
    (cases_lt k (length es))
