-- What replace gives: a text with another in place of a third, up to a bound. Assumes nothing.
use Rattle.std.specs.Prelude.{◌≡◌, ℕ, suc, ◌+◌, ◌*◌, ◌<◌, ◌≤◌, min, if◌then◌else◌, List, [], ◌∷◌, ◌++◌, map, length}
use Rattle.std.specs.Prelude.{take, drop, ℤ, pos, negsuc, Ok, Err, Result, ◌==◌, nat_lt, nat_le}
use Rattle.std.specs.List.{concat}
use Rattle.anystr.specs.Places.{join_parts}
use Rattle.anystr.specs.declared.optional.OptionalArg.{OptionalArg}
use Rattle.anystr.specs.declared.optional.OptionalArg.TheVariants.{Present, Missing}
use Rattle.cuts.specs.Cuts.{at_opening, fewer, cut_from, poured, pieces_left}
use Rattle.bytesinner.specs.Openings.{unbounded, opening_at}

-- the most bytes of a result; the code's MAX_RESULT
abbrev pub most_result : ℕ
most_result = 9223372036854775807

-- an absent or negative maxcount is no bound
abbrev pub bound_of : OptionalArg ℤ → ℤ
bound_of Missing = unbounded
bound_of (Present (pos n)) = pos n
bound_of (Present (negsuc n)) = unbounded

-- `to` before each element and at the end, while fewer copies were made than the bound
abbrev pub spread_text : List ℕ → ℤ → ℕ → List (List ℕ) → List ℕ
spread_text to bound made [] = if fewer made bound then to else []
spread_text to bound made (e ∷ es) =
    (if fewer made bound then to else []) ++ (e ++ spread_text to bound (suc made) es)

-- the copies of `to` among n elements
abbrev pub copy_count : ℕ → ℤ → ℕ
copy_count n (pos b) = min b (suc n)
copy_count n (negsuc _) = suc n

-- copies of `to` among the elements: one before each of the first k, and one at the end if k is more than they are
abbrev pub with_copies : List ℕ → ℕ → List (List ℕ) → List ℕ
with_copies to k es =
    concat (map (λ e. to ++ e) (take k es)) ++ concat (drop k es) ++ (if nat_lt (length es) k then to else [])

-- `to` in place of each occurrence that is cut
abbrev pub poured_text : List (List ℕ) → List ℕ → List ℕ → ℤ → List ℕ
poured_text es from to bound = poured (concat es) to 0 (cut_from (opening_at (concat es) from bound) 0 0)

-- the text with `to` in place of `from`; an empty `from` stands before each element and at the end
abbrev pub replaced_text : List (List ℕ) → List ℕ → List ℕ → ℤ → List ℕ
replaced_text es from to bound =
    if length from == 0 then spread_text to bound 0 es else poured_text es from to bound

-- the bytes, unless they are too many
abbrev pub if_short : List ℕ → Result (List ℕ) (ℕ × ℕ)
if_short bytes = if nat_le (length bytes) most_result then Ok bytes else Err (5, 0)

-- replace: its bytes, or its refusal
abbrev pub replace_of : List (List ℕ) → List ℕ → List ℕ → ℤ → Result (List ℕ) (ℕ × ℕ)
replace_of es from to bound = if_short (replaced_text es from to bound)

-- The law of replace: with a nonempty `from` it joins, with `to`, the pieces of the text that are cut apart at
-- `from`; with an empty one it adds the copies of `to`, each in its place; with the bound 0 it gives the text; and
-- its size.
pub record ReplaceLaw (es : List (List ℕ)) (from to : List ℕ) (bound : ℤ) : Type 0 where
  pub split : 0 < length from
      → replaced_text es from to bound
      ≡ join_parts to (concat es) (pieces_left (opening_at (concat es) from bound) at_opening)
  pub placed : length from ≡ 0 → replaced_text es from to bound ≡ with_copies to (copy_count (length es) bound) es
  pub added : length from ≡ 0
      → length (replaced_text es from to bound) ≡ length (concat es) + copy_count (length es) bound * length to
  pub none : bound ≡ pos 0 → replaced_text es from to bound ≡ concat es
  pub size : length (replaced_text es from to bound) ≤ length (concat es) + suc (length (concat es)) * length to
