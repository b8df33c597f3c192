-- Words: the runs of a text between whitespace, and the lists that a bound makes of them. Assumes nothing.
use Rattle.std.specs.Prelude.{◌≡◌, ℕ, suc, ◌-◌, ◌<◌, ◌≤◌, min, Bool, true, false, if◌then◌else◌, List, [], ◌∷◌, ◌++◌}
use Rattle.std.specs.Prelude.{length, take, drop, ℤ, pos, negsuc, Some, None, Option, nat_lt, slice_index}
use Rattle.std.specs.List.{prefix_len}
use Rattle.std.specs.Bool.{beq}
use Rattle.searchers.specs.Marks.{Span}
use Rattle.searchers.specs.bytesets.Sets.{among}
use Rattle.cuts.specs.Runs.{In}

-- space, tab, line feed, form feed, carriage return and vertical tab
abbrev pub whitespace : List ℕ
whitespace = 32 ∷ 9 ∷ 10 ∷ 12 ∷ 13 ∷ 11 ∷ []

-- whether a byte is whitespace
abbrev pub is_space : ℕ → Bool
is_space b = among whitespace b

-- how many bytes at the front are whitespace, or, where `spaces` is false, are none
abbrev pub stretch_len : List ℕ → Bool → ℕ
stretch_len bytes spaces = prefix_len (λ b. beq spaces (is_space b)) bytes

-- a stretch alone, or nothing where it is empty
abbrev pub run : ℕ → ℕ → List Span
run a e = if nat_lt a e then (a, e) ∷ [] else []

-- the runs that end at `place` or after it, where these bytes stand from `place` on, and no whitespace stands from
-- `from` to `place`
abbrev pub runs_from : ℕ → ℕ → List ℕ → List Span
runs_from from place [] = run from place
runs_from from place (b ∷ bs) =
    if is_space b then run from place ++ runs_from (suc place) (suc place) bs else runs_from from (suc place) bs

-- the runs of a text
abbrev pub runs : List ℕ → List Span
runs bytes = runs_from 0 0 bytes

-- the runs from a place on
abbrev pub runs_left : List ℕ → ℕ → List Span
runs_left bytes place = runs_from place place (drop place bytes)

-- the first of these runs, and the place after it; where there is none the place stays
abbrev pub first_run : ℕ → List Span → Option Span × ℕ
first_run place [] = (None, place)
first_run place (r ∷ rs) = (Some r, r.1)

-- the next run from a place on, and the place after it
abbrev pub next_run : List ℕ → ℕ → Option Span × ℕ
next_run bytes place = first_run place (runs_left bytes place)

-- how many of the runs stay by themselves: as many as the bound, and all where they are not more; a negative bound
-- is none
abbrev pub lone_count : ℕ → ℤ → ℕ
lone_count total (pos bound) = min total bound
lone_count total (negsuc _) = total

-- the last stretch goes on to `len`
abbrev pub to_end : ℕ → List Span → List Span
to_end len [] = []
to_end len (r ∷ []) = (r.0, len) ∷ []
to_end len (r ∷ s ∷ rs) = r ∷ to_end len (s ∷ rs)

-- the first stretch begins at 0
abbrev pub from_start : List Span → List Span
from_start [] = []
from_start (r ∷ rs) = (0, r.1) ∷ rs

-- the runs of `len` bytes; where more than the bound, the first of them and one more, which goes on to their end
abbrev pub first_words : List Span → ℕ → ℤ → List Span
first_words rs len bound =
    let n = lone_count (length rs) bound in
    if nat_lt n (length rs) then to_end len (take (suc n) rs) else rs

-- the runs; where more than the bound, the last of them and one more, which begins at the start of the text
abbrev pub last_words : List Span → ℤ → List Span
last_words rs bound =
    let n = lone_count (length rs) bound in
    if nat_lt n (length rs) then from_start (drop (length rs - suc n) rs) else rs

-- the words of a text from its front, as a bound lets them be split
abbrev pub words_of : List ℕ → ℤ → List Span
words_of bytes bound = first_words (runs bytes) (length bytes) bound

-- the same from its end
abbrev pub rwords_of : List ℕ → ℤ → List Span
rwords_of bytes bound = last_words (runs bytes) bound

-- a run: a longest stretch of one byte or more without whitespace
pub record Run (bytes : List ℕ) (a e : ℕ) : Type 0 where
  pub nonempty : a < e
  pub within : e ≤ length bytes
  pub bare : (k : ℕ) → a ≤ k → k < e → is_space (slice_index bytes k) ≡ false
  pub before : 0 < a → is_space (slice_index bytes (a - 1)) ≡ true
  pub after : e < length bytes → is_space (slice_index bytes e) ≡ true

-- stretches that come in order from an offset on, each of which ends before the next begins
abbrev pub InOrder : ℕ → List Span → Type 0
InOrder from [] = Unit {0}
InOrder from (r ∷ rs) = (from ≤ r.0) × InOrder (suc r.1) rs

-- the law of the runs: these are the runs of the text, each of them once, in their order
pub record AllRuns (bytes : List ℕ) (rs : List Span) : Type 0 where
  pub each : (r : Span) → In r rs → Run bytes r.0 r.1
  pub every : (a e : ℕ) → Run bytes a e → In (a, e) rs
  pub order : InOrder 0 rs
