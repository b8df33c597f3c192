-- Pieces that come one after another, and lists that are written from them.
use Rattle.std.proofs.Common.{◌≡◌, ℕ, ◌+◌, ◌<◌, ◌≤◌, List, [], ◌∷◌, ◌++◌, length, get_or, take, drop, set, Ok, sym, ap}
use Rattle.std.proofs.Common.{◌∙◌, subst, arith, length-drop}
use Rattle.std.proofs.lemmas.List.{drop-drop, take_more, drop_more, take_more_set, drop-set-lt, take_all, map-append}
use Rattle.std.proofs.lemmas.List.{length-take-le, drop_all}
use Rattle.anystr.specs.Places.{Lists, stretch, stretches}
use Rattle.anystr.specs.declared.place.Place.{Place}
use Rattle.searchers.specs.Marks.{Span}
use Rattle.cutters.specs.pieces.Sources.{Filled}

-- a piece that comes after i others stands at i, and the others follow it
pub record Comes (xs left : List Span) (i : ℕ) (p : Span) : Type 0 where
  pub within : i < length xs
  pub taken : take (i + 1) xs ≡ take i xs ++ (p ∷ [])
  pub others : left ≡ drop (i + 1) xs

pub comes : (xs left : List Span) (i : ℕ) (p : Span) → drop i xs ≡ p ∷ left → Comes xs left i p
comes xs left i p e =
    let l = ap length e in
    let lt : i < length xs = omega (arith, length-drop i xs) in
    let more = drop_more xs i p lt in
    let both : get_or xs i p ∷ drop (i + 1) xs ≡ p ∷ left = sym more ∙ e in
    let is : get_or xs i p ≡ p = cc in
    record { within = lt; taken = take_more xs i p lt ∙ ap (λ (q : Span). take i xs ++ (q ∷ [])) is; others = cc }

-- and is written into the entry at i
pub filled_more : (xs left : List Span) (i : ℕ) (q : Span) (list list' : List Place) (p : Place) → Comes xs left i q
    → stretch p ≡ q → i < length list' → Filled (take i xs) list list' → Filled (take (i + 1) xs) list (set list' i p)
filled_more xs left i q list list' p at is lt f =
    let n : length (take i xs) ≡ i = length-take-le i xs (omega (arith, at.within)) in
    let m : length (take (i + 1) xs) ≡ i + 1 = length-take-le (i + 1) xs (omega (arith, at.within)) in
    let before : stretches (take i list') ≡ take i xs = ap (λ (k : ℕ). stretches (take k list')) (sym n) ∙ f.written in
    let others : drop i list' ≡ drop i list = subst (λ (k : ℕ). drop k list' ≡ drop k list) n f.others in
    let keep : drop (i + 1) (set list' i p) ≡ drop (i + 1) list =
    drop-set-lt (i + 1) list' i p (omega arith)
    ∙ (sym (drop-drop 1 i list') ∙ (ap (drop 1) others ∙ drop-drop 1 i list)) in
    record {
      written =
          ap (λ (k : ℕ). stretches (take k (set list' i p))) m
          ∙ (ap stretches (take_more_set list' i p lt)
          ∙ (map-append stretch (take i list') (p ∷ []) ∙ ((λ j. before j ++ (is j ∷ [])) ∙ sym at.taken)));
      others = subst (λ (k : ℕ). drop k (set list' i p) ≡ drop k list) (sym m) keep;
    }

-- no piece is left after i: the first i are all
pub all_taken : (xs : List Span) (i n : ℕ) → i ≤ n → drop i xs ≡ [] → take i xs ≡ take n xs
all_taken xs i n le e =
    let l = ap length e in let z = length-drop i xs in take_all i xs (omega arith) ∙ sym (take_all n xs (omega arith))

-- and none is left further on
pub none_after : (xs : List Span) (i n : ℕ) → i ≤ n → drop i xs ≡ [] → drop n xs ≡ []
none_after xs i n le e = let l = ap length e in drop_all n xs (omega (arith, length-drop i xs))

-- a list that has room for every piece
pub listed : (ps : List Span) (list list' : List Place) (n : ℕ) → n ≡ length ps → length ps ≤ length list
    → Filled (take (length list) ps) list list' → Lists (Ok ps) list list' (Ok n)
listed ps list list' n e fits f =
    let g : Filled ps list list' =
    subst (λ (qs : List Span). Filled qs list list') (take_all (length list) ps fits) f in (
      e,
      fits,
      ap (λ (k : ℕ). stretches (take k list')) e ∙ g.written,
      subst (λ (k : ℕ). drop k list' ≡ drop k list) (sym e) g.others,
    )
