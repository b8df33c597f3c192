-- The samples: what the definitions give, beside what is expected. Assumes nothing.
use Rattle.std.specs.Prelude.{◌≡◌, ℕ, Bool, true, false, List, [], ◌∷◌, map, length, ℤ, pos, negsuc, Some, None, Ok}
use Rattle.std.specs.Prelude.{Err, codes}
use Rattle.std.specs.Prelude.{Option, Result}
use Rattle.anystr.specs.Indices.{start_of, end_of}
use Rattle.anystr.specs.OfBytes.{singles}
use Rattle.anystr.specs.Places.{part}
use Rattle.anystr.specs.declared.optional.OptionalArg.{OptionalArg}
use Rattle.anystr.specs.declared.optional.OptionalArg.TheVariants.{Present, Missing}
use Rattle.searchers.specs.Marks.{Span}
use Rattle.cuts.specs.Cuts.{Opening, at_opening, next_of, nexts, skip_of, pour_of}
use Rattle.bytesinner.specs.Openings.{unbounded, opening_at}
use Rattle.bytesinner.specs.finds.Counts.{count_of}
use Rattle.bytesinner.specs.finds.Places.{find_of}
use Rattle.bytesinner.specs.lines.Lines.{lines_of}
use Rattle.bytesinner.specs.replaces.Replaces.{replace_of, bound_of}
use Rattle.bytesinner.specs.Splitting.{splits_of, rsplits_of}

-- what a definition gives
pub data Outcome : Type 0 where
  parts : List (List ℕ) → Outcome
  bytes : List ℕ → Outcome
  found : Option ℕ → Outcome
  number : ℕ → Outcome
  next : Option Span → Outcome
  accepted : Outcome
  refused : ℕ × ℕ → Outcome

-- the bytes at the places that a split gives
abbrev pub split_outcome : List ℕ → Result (List Span) (ℕ × ℕ) → Outcome
split_outcome text (Ok places) = parts (map (part text) places)
split_outcome text (Err code) = refused code

-- the bytes that a call appends
abbrev pub bytes_outcome : Result (List ℕ) (ℕ × ℕ) → Outcome
bytes_outcome (Ok bs) = bytes bs
bytes_outcome (Err code) = refused code

-- what a call without a value answers
abbrev pub call_outcome : Result (Unit {0}) (ℕ × ℕ) → Outcome
call_outcome (Ok tt) = accepted
call_outcome (Err code) = refused code

-- an outcome beside the one that is expected
pub record Sample : Type 0 where
  pub given : Outcome
  pub expected : Outcome

-- the same by its parts
abbrev pub sample : (given expected : Outcome) → Sample
sample g e = record { given = g; expected = e }

-- what split gives, with an optional separator
abbrev pub split : List ℕ → Option (List ℕ) → ℤ → Outcome
split text sep maxsplit = split_outcome text (splits_of text sep maxsplit)

-- what rsplit gives
abbrev pub rsplit : List ℕ → Option (List ℕ) → ℤ → Outcome
rsplit text sep maxsplit = split_outcome text (rsplits_of text sep maxsplit)

-- what splitlines gives, with the ends or without
abbrev pub lines : List ℕ → Bool → Outcome
lines text keepends = parts (map (part text) (lines_of text keepends))

-- what find gives for a byte string, with an optional start and end
abbrev pub find : (text sub : List ℕ) → (start end : Option ℤ) → Outcome
find text sub start end = found (find_of text sub (start_of start (length text)) (end_of end (length text)))

-- what count gives for them
abbrev pub count : (text sub : List ℕ) → (start end : Option ℤ) → Outcome
count text sub start end = number (count_of text sub (start_of start (length text)) (end_of end (length text)))

-- what replace makes of a text of bytes
abbrev pub replace : List ℕ → List ℕ → List ℕ → OptionalArg ℤ → Outcome
replace text from to maxcount = bytes_outcome (replace_of (singles text) from to (bound_of maxcount))

-- the empty byte string
abbrev pub empty : List ℕ
empty = []

-- a cutter on `a,b` by a comma, without a bound
abbrev pub commas : Opening
commas = opening_at (codes "a,b") (codes ",") unbounded

-- `a`, carriage return, line feed, carriage return, `b`, line feed
abbrev pub three_lines : List ℕ
three_lines = 97 ∷ 13 ∷ 10 ∷ 13 ∷ 98 ∷ 10 ∷ []

-- the samples
abbrev pub samples : List Sample
samples =
    sample (replace (codes "aaa") (codes "aa") (codes "b") Missing) (bytes (codes "ba"))
    ∷ sample (replace (codes "aaa") (codes "aa") (codes "b") (Present (pos 0))) (bytes (codes "aaa"))
    ∷ sample (replace (codes "Py") empty (codes ".") Missing) (bytes (codes ".P.y."))
    ∷ sample (replace (codes "Py") empty (codes ".") (Present (pos 2))) (bytes (codes ".P.y"))
    ∷ sample (replace empty empty (codes ".") Missing) (bytes (codes "."))
    ∷ sample (split (codes "a,,b,") (Some (codes ",")) unbounded) (parts (codes "a" ∷ empty ∷ codes "b" ∷ empty ∷ []))
    ∷ sample (split (codes "a,,b,") (Some (codes ",")) (pos 1)) (parts (codes "a" ∷ codes ",b," ∷ []))
    ∷ sample (split empty (Some (codes ",")) unbounded) (parts (empty ∷ []))
    ∷ sample (split empty None unbounded) (parts [])
    ∷ sample (split (codes "aaa") (Some (codes "aa")) unbounded) (parts (empty ∷ codes "a" ∷ []))
    ∷ sample (rsplit (codes "aaa") (Some (codes "aa")) unbounded) (parts (codes "a" ∷ empty ∷ []))
    ∷ sample (split (codes "  n s e ") None (pos 1)) (parts (codes "n" ∷ codes "s e " ∷ []))
    ∷ sample (rsplit (codes "  n s e ") None (pos 1)) (parts (codes "  n s" ∷ codes "e" ∷ []))
    ∷ sample (lines three_lines false) (parts (codes "a" ∷ empty ∷ codes "b" ∷ []))
    ∷ sample (lines three_lines true) (parts ((97 ∷ 13 ∷ 10 ∷ []) ∷ (13 ∷ []) ∷ (98 ∷ 10 ∷ []) ∷ []))
    ∷ sample (find (codes "anna") (codes "n") (Some (negsuc 2)) None) (found (Some 1))
    ∷ sample (find (codes "anna") (codes "n") (Some (pos 5)) None) (found None)
    ∷ sample (count (codes "anna") empty None None) (number 5)
    ∷ sample (call_outcome (skip_of commas 3 at_opening)) (refused (9, 2))
    ∷ sample (call_outcome (skip_of commas 2 at_opening)) accepted
    ∷ sample (next (next_of commas (nexts commas 2 at_opening)).0) (next None)
    ∷ sample (bytes_outcome (pour_of commas (codes "; ") at_opening)) (bytes (codes "a; b"))
    ∷ sample (bytes_outcome (pour_of commas (codes "; ") (nexts commas 2 at_opening))) (refused (8, 0))
    ∷ []

-- each sample is as expected
abbrev pub SamplesHold : Type 0
SamplesHold = map (λ s. s.given) samples ≡ map (λ s. s.expected) samples
