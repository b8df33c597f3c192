-- Parts of a text, joined with another between them. Assumes nothing.
use Rattle.std.specs.Prelude.{◌≡◌, ℕ, suc, ◌+◌, ◌-◌, ◌*◌, ◌<◌, Bool, if◌then◌else◌, ◌&&◌, List, [], ◌∷◌, map, length}
use Rattle.std.specs.Prelude.{Some, None, Ok, Err, Option, Result, nat_le, nat_lt, slice_index_or}
use Rattle.std.specs.List.{concat}
use Rattle.anystr.specs.Elements.{Cut, on_boundary}
use Rattle.anystr.specs.Limits.{most_bytes}
use Rattle.anystr.specs.Places.{part, join_parts}

-- the most places of a join; the code's MAX_PLACES
abbrev pub most_places : ℕ
most_places = most_bytes + 1

-- whether the place runs from a boundary to one at or after it
abbrev pub can_cut : List (List ℕ) → ℕ × ℕ → Bool
can_cut es p = nat_le p.0 p.1 && (on_boundary es p.0 && on_boundary es p.1)

-- the index of the first place that does not, where the first of these has the index `at`
abbrev pub first_bad : List (List ℕ) → ℕ → List (ℕ × ℕ) → Option ℕ
first_bad es at [] = None
first_bad es at (p ∷ ps) = if can_cut es p then first_bad es (suc at) ps else Some at

-- the answer, unless a place is bad
abbrev pub unless_bad : {X : Type 0} → Option ℕ → X → Result X (ℕ × ℕ)
unless_bad None x = Ok x
unless_bad (Some at) x = Err (12, at)

-- join: its bytes, or its refusal
abbrev pub join_of : List ℕ → List (List ℕ) → List (ℕ × ℕ) → Result (List ℕ) (ℕ × ℕ)
join_of sep es ps =
    if nat_lt most_places (length ps) then Err (6, 0)
    else unless_bad (first_bad es 0 ps) (join_parts sep (concat es) ps)

-- a place that can be cut out of the text
abbrev pub Good : List (List ℕ) → ℕ × ℕ → Type 0
Good es p = Cut es p.0 p.1

-- the place of index i cannot be cut out, and each before it can
pub record BadAt (es : List (List ℕ)) (ps : List (ℕ × ℕ)) (i : ℕ) : Type 0 where
  pub within : i < length ps
  pub bad : ¬ Good es (slice_index_or ps i (0, 0))
  pub before : (k : ℕ) → k < i → Good es (slice_index_or ps k (0, 0))

-- the first bad place, if there is one
abbrev pub Judged : List (List ℕ) → List (ℕ × ℕ) → Option ℕ → Type 0
Judged es ps None = (k : ℕ) → k < length ps → Good es (slice_index_or ps k (0, 0))
Judged es ps (Some i) = BadAt es ps i

-- the law of a join: the place that it refuses, and that it takes the bytes of the parts and a separator fewer
pub record JoinLaw (sep : List ℕ) (es : List (List ℕ)) (ps : List (ℕ × ℕ)) : Type 0 where
  pub judged : Judged es ps (first_bad es 0 ps)
  pub size : length (join_parts sep (concat es) ps)
      ≡ length (concat (map (part (concat es)) ps)) + (length ps - 1) * length sep
