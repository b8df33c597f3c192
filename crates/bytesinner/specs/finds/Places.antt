-- Where a needle stands between two offsets: the first place and the last. Assumes nothing.
use Rattle.std.specs.Prelude.{ℕ, suc, ◌+◌, ◌≤◌, if◌then◌else◌, List, [], ◌∷◌, length, Some, None, Option, nat_le}
use Rattle.std.specs.Option.{option_or}
use Rattle.anystr.specs.Elements.{Occurs}
use Rattle.anystr.specs.Places.{part}
use Rattle.searchers.specs.substring.Occurrences.{begins_with}

-- the place p, if the bytes there begin with the needle
abbrev pub place_here : List ℕ → List ℕ → ℕ → Option ℕ
place_here n bs p = if begins_with n bs then Some p else None

-- the first place of the needle in bytes that begin at p
abbrev pub first_place : List ℕ → List ℕ → ℕ → Option ℕ
first_place n [] p = place_here n [] p
first_place n (b ∷ bs) p = option_or (place_here n (b ∷ bs) p) (first_place n bs (suc p))

-- the last place of the needle in bytes that begin at p
abbrev pub last_place : List ℕ → List ℕ → ℕ → Option ℕ
last_place n [] p = place_here n [] p
last_place n (b ∷ bs) p = option_or (last_place n bs (suc p)) (place_here n (b ∷ bs) p)

-- find: the first place from a to b
abbrev pub find_of : List ℕ → List ℕ → ℕ → ℕ → Option ℕ
find_of bs n a b = if nat_le a b then first_place n (part bs (a, b)) a else None

-- rfind: the last place from a to b
abbrev pub rfind_of : List ℕ → List ℕ → ℕ → ℕ → Option ℕ
rfind_of bs n a b = if nat_le a b then last_place n (part bs (a, b)) a else None

-- the needle stands at p, from a on and up to b
pub record Stands (bs n : List ℕ) (a b p : ℕ) : Type 0 where
  pub after : a ≤ p
  pub ahead : p + length n ≤ b
  pub occurs : Occurs bs n p

-- the needle stands at no place
abbrev pub Nowhere : List ℕ → List ℕ → ℕ → ℕ → Type 0
Nowhere bs n a b = (p : ℕ) → ¬ Stands bs n a b p

-- an offset at which the needle stands, and which is so to each other at which it does; none exactly when there is none
abbrev pub PlaceBy : (ℕ → ℕ → Type 0) → List ℕ → List ℕ → ℕ → ℕ → Option ℕ → Type 0
PlaceBy IsSo bs n a b None = Nowhere bs n a b
PlaceBy IsSo bs n a b (Some p) = Stands bs n a b p × ((q : ℕ) → Stands bs n a b q → IsSo p q)

-- the least offset at which the needle stands
abbrev pub FirstPlace : List ℕ → List ℕ → ℕ → ℕ → Option ℕ → Type 0
FirstPlace = PlaceBy (λ p q. p ≤ q)

-- the greatest offset at which the needle stands
abbrev pub LastPlace : List ℕ → List ℕ → ℕ → ℕ → Option ℕ → Type 0
LastPlace = PlaceBy (λ p q. q ≤ p)
