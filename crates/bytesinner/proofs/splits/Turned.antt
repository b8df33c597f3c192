-- A list of places that is turned round.
use Rattle.std.proofs.Common.{◌≡◌, ℕ, ◌<◌, List, [], ◌∷◌, ◌++◌, map, reverse, length, take, drop, ℤ, Ok, Err, Result}
use Rattle.std.proofs.Common.{sym, refl, ap, ◌∙◌, arith}
use mathlib.Core.List.{reverse-cons}
use Rattle.std.proofs.lemmas.List.{map_push, length-map, length-reverse, take_at, drop_at}
use Rattle.anystr.specs.Places.{Lists, stretch, stretches}
use Rattle.anystr.specs.declared.anystr.AnyStr
use Rattle.anystr.specs.declared.place.Place.{Place}
use Rattle.anystr.specs.declared.refusal.Refusal.{Refusal}
use Rattle.searchers.specs.Marks.{Span}
use Rattle.searchers.specs.declared.searcher.Searcher
use Rattle.searchers.specs.substring.Occurrences.{occurrence}
use Rattle.cuts.specs.Cuts.{at_opening}
use Rattle.cuts.specs.Splits.{pieces_of, flip, mirror, left_back}
use Rattle.cutters.specs.Calls.{opening_of}
use Rattle.bytesinner.specs.splits.Back.{state, left_pieces, IsOn}
use Rattle.bytesinner.specs.splits.Separated.{unless_empty}
use Rattle.bytesinner.specs.declared.splits.back.BackCutter.{BackCutter}

-- the places between the separators that are cut from the end, as they come
abbrev pub from_back : (bytes sep : List ℕ) → ℤ → List Span
from_back bytes sep maxsplit =
    map (flip (length bytes)) (pieces_of (mirror (occurrence sep bytes) (length bytes)) (length bytes) maxsplit)

-- what a cutter from the end has left where it has just been opened
pub opened-left : {S F C : Type 0} {s : AnyStr.Ghosts S C} {f : Searcher.Ghosts F S C}
    {text : S} {searcher : F} {bound : ℤ} (c : BackCutter S F C s f) → IsOn text searcher bound c → state c ≡ at_opening
    → left_pieces c ≡ left_back (opening_of s f text searcher bound) at_opening
opened-left {s = s} {f = f} c on first =
    λ i. left_back (opening_of s f (on.text i) (on.searcher i) (on.bound i)) (first i)

-- the stretches of places that are turned round
stretches-reverse : (ps : List Place) → stretches (reverse ps) ≡ reverse (stretches ps)
stretches-reverse [] = refl
stretches-reverse (p ∷ ps) =
    let rest = ap (λ (qs : List Span). qs ++ stretch p ∷ []) (stretches-reverse ps) in
    ap stretches (reverse-cons p ps)
    ∙ (map_push stretch (reverse ps) p ∙ (rest ∙ sym (reverse-cons (stretch p) (stretches ps))))

-- a separator that is not empty is not refused
pub accepted : (sep : List ℕ) (qs : List Span) (list list' : List Place) (r : Result ℕ Refusal) → 0 < length sep
    → Lists (Ok qs) list list' r → Lists (unless_empty sep qs) list list' r
accepted [] qs list list' r some h = absurd (omega arith)
accepted (b ∷ bs) qs list list' r some h = h

-- the first n places are turned round
pub turned-listed : (qs : List Span) (list list' front : List Place) (n : ℕ) → Lists (Ok qs) list list' (Ok n)
    → front ≡ reverse (take n list') → Lists (Ok (reverse qs)) list (front ++ drop n list') (Ok n)
turned-listed qs list list' front n h is =
    let taken = sym (length-map (take n list') stretch) ∙ (ap length h.2 ∙ sym h.0) in
    let long : length front ≡ n = ap length is ∙ (length-reverse (take n list') ∙ taken) in
    let same = length-reverse qs in (
      h.0 ∙ sym same,
      omega (arith, h.1),
      ap stretches (take_at front (drop n list') n long ∙ is) ∙ (stretches-reverse (take n list') ∙ ap reverse h.2),
      drop_at front (drop n list') n long ∙ h.3,
    )

-- a refusal stays
pub turned-refused : (qs : List Span) (list list' : List Place) (e : Refusal) → Lists (Ok qs) list list' (Err e)
    → Lists (Ok (reverse qs)) list list' (Err e)
turned-refused qs list list' e h =
    let same = length-reverse qs in
    (omega (arith, h.0), h.1 ∙ (λ i. (7, sym same i)), h.2)
