-- A text's meaning: the list of its elements' encodings. Assumes nothing.
use Rattle.std.specs.Prelude.{◌≡◌, ℕ, ◌+◌, ◌-◌, ◌<◌, ◌≤◌, Bool, true, if◌then◌else◌, ◌&&◌, ◌==◌, nat_le}
use Rattle.std.specs.Prelude.{List, [], ◌∷◌, length, take, drop, Some, None, Option}
use Rattle.std.specs.List.{concat}

-- the bytes before the element of index k
abbrev pub offset : List (List ℕ) → ℕ → ℕ
offset es k = length (concat (take k es))

-- an offset at which an element begins, or the length
abbrev pub Boundary : List (List ℕ) → ℕ → Type 0
Boundary es p = (k : ℕ) × (offset es k ≡ p)

-- the same as a test
abbrev pub on_boundary : List (List ℕ) → ℕ → Bool
on_boundary [] p = p == 0
on_boundary (e ∷ es) p = if p == 0 then true else (nat_le (length e) p && on_boundary es (p - length e))

-- the stretch from a to b can be cut out
pub record Cut (es : List (List ℕ)) (a b : ℕ) : Type 0 where
  pub order : a ≤ b
  pub start : Boundary es a
  pub end : Boundary es b

-- ps are the elements of es from the offset a to the offset b
pub record Part (es ps : List (List ℕ)) (a b : ℕ) : Type 0 where
  pub from : ℕ
  pub to : ℕ
  pub order : from ≤ to
  pub start : offset es from ≡ a
  pub end : offset es to ≡ b
  pub is : ps ≡ take (to - from) (drop from es)

-- the element that begins at the offset p, if one does
abbrev pub element_at : List (List ℕ) → ℕ → Option (List ℕ)
element_at [] p = None
element_at (e ∷ es) p =
    if p == 0 then Some e else (if nat_le (length e) p then element_at es (p - length e) else None)

-- the bytes n stand in the bytes bs from p on
abbrev pub Occurs : List ℕ → List ℕ → ℕ → Type 0
Occurs bs n p = take (length n) (drop p bs) ≡ n

-- where the bytes n, if there are any, stand in the text of the elements es, they begin and end at boundaries
abbrev pub OccursOnBoundaries : List (List ℕ) → List ℕ → Type 0
OccursOnBoundaries es n = (p : ℕ) → 0 < length n → Occurs (concat es) n p → Boundary es p × Boundary es (p + length n)

-- no encoding is empty
abbrev pub Filled : List (List ℕ) → Type 0
Filled [] = Unit {0}
Filled (e ∷ es) = (0 < length e) × Filled es
