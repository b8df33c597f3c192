-- Lists of places, the parts that they name, and what a call that writes one answers. Assumes nothing.
use Rattle.std.specs.Prelude.{◌≡◌, ℕ, ◌-◌, ◌<◌, ◌≤◌, List, [], ◌∷◌, ◌++◌, map, length, take, drop, Ok, Err, Result}
use Rattle.anystr.specs.declared.place.Place.{Place}
use Rattle.anystr.specs.declared.refusal.Refusal.{Refusal}
use Rattle.anystr.specs.Refusals.{code, coded}

-- a place by its start and its end
abbrev pub stretch : Place → ℕ × ℕ
stretch p = (p.start, p.end)

-- the same of each place of a list
abbrev pub stretches : List Place → List (ℕ × ℕ)
stretches ps = map stretch ps

-- the bytes from a start to an end
abbrev pub part : List ℕ → ℕ × ℕ → List ℕ
part bytes p = take (p.1 - p.0) (drop p.0 bytes)

-- the parts, with `sep` between each and the next
abbrev pub with_between : List ℕ → List (List ℕ) → List ℕ
with_between sep [] = []
with_between sep (p ∷ []) = p
with_between sep (p ∷ q ∷ ps) = p ++ (sep ++ with_between sep (q ∷ ps))

-- the parts at these places, with `sep` between
abbrev pub join_parts : List ℕ → List ℕ → List (ℕ × ℕ) → List ℕ
join_parts sep bytes ps = with_between sep (map (part bytes) ps)

-- The answer of a call that is defined to give these stretches or to be refused with a code, with the list before it
-- and after it. The places stand first, in their order, and entries past them are as they were. A list with too
-- few entries is refused with 7 and the number of places. Refused, every entry is as it was.
abbrev pub Lists : Result (List (ℕ × ℕ)) (ℕ × ℕ) → (list list' : List Place) → Result ℕ Refusal → Type 0
Lists (Err c) list list' r = (coded r ≡ Err c) × (list' ≡ list)
Lists (Ok ps) list list' (Ok n) =
    (n ≡ length ps) × (length ps ≤ length list) × (stretches (take n list') ≡ ps) × (drop n list' ≡ drop n list)
Lists (Ok ps) list list' (Err e) = (length list < length ps) × (code e ≡ (7, length ps)) × (list' ≡ list)
