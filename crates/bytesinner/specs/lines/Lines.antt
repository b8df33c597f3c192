-- The lines of a text, without and with their ends. Assumes nothing.
use Rattle.std.specs.Prelude.{◌≡◌, ℕ, ◌<◌, ◌≤◌, Bool, true, false, if◌then◌else◌, List, [], ◌∷◌, map, length, None}
use Rattle.std.specs.Prelude.{Option}
use Rattle.std.specs.Prelude.{◌≢◌, nat_lt, slice_index}
use Rattle.std.specs.List.{concat}
use Rattle.std.specs.Option.{option_map}
use Rattle.anystr.specs.Places.{part}
use Rattle.searchers.specs.Marks.{Marks, Span}
use Rattle.searchers.specs.lineends.Lines.{line_end, LineEnd}
use Rattle.cuts.specs.Cuts.{Opening, size, State, all_marks, cuts, between, pieces_left, next_of}
use Rattle.bytesinner.specs.Openings.{unbounded}

-- the pieces, without the last where it is empty
abbrev pub filled_pieces : List Span → List Span
filled_pieces [] = []
filled_pieces (p ∷ []) = if nat_lt p.0 p.1 then p ∷ [] else []
filled_pieces (p ∷ q ∷ ps) = p ∷ filled_pieces (q ∷ ps)

-- where these lines begin, or the length where there are none
abbrev pub start_or : ℕ → List Span → ℕ
start_or len [] = len
start_or len (p ∷ ps) = p.0

-- each line with its end: it goes on to where the next begins, and the last to the end of the text
abbrev pub with_ends : ℕ → List Span → List Span
with_ends len [] = []
with_ends len (p ∷ ps) = (p.0, start_or len ps) ∷ with_ends len ps

-- the lines that these pieces make, with their ends or without
abbrev pub lines_from : Bool → ℕ → List Span → List Span
lines_from keepends len ps = if keepends then with_ends len (filled_pieces ps) else filled_pieces ps

-- the lines of a text of `len` bytes, where these marks end them
abbrev pub lines_at : Marks → ℕ → Bool → List Span
lines_at marks len keepends = lines_from keepends len (between 0 len (cuts unbounded 0 0 (all_marks marks len)))

-- the lines of a text: the pieces between its line ends
abbrev pub lines_of : List ℕ → Bool → List Span
lines_of bytes keepends = lines_at (line_end bytes) (length bytes) keepends

-- the lines that a cutter has left
abbrev pub lines_left : Opening → Bool → State → List Span
lines_left on keepends s = lines_from keepends (size on) (pieces_left on s)

-- what a cutter's next gives, as a line, which with its end goes on to the place after it; and the state after it
abbrev pub line_of : Bool → Option Span × State → Option Span × State
line_of keepends n = (option_map (λ p. (p.0, if keepends then n.1.place else p.1)) n.0, n.1)

-- the next line of a cutter, and its state after it: where the rest is empty there is none, and the state stays
abbrev pub next_line : Opening → Bool → State → Option Span × State
next_line on keepends s = if nat_lt s.place (size on) then line_of keepends (next_of on s) else (None, s)

-- no line feed or carriage return stands from a to e
abbrev pub Bare : List ℕ → ℕ → ℕ → Type 0
Bare bytes a e = (k : ℕ) → a ≤ k → k < e → (slice_index bytes k ≢ 10) × (slice_index bytes k ≢ 13)

-- A text from p on, read line by line, with the lines without their ends and with them: bytes that are no line end
-- and a line end after them, again and again; the last line may lack its end, and is then not empty.
pub data Reads (bytes : List ℕ) : ℕ → List Span → List Span → Type 0 where
  ended : {p : ℕ} → p ≡ length bytes → Reads bytes p [] []
  line : {p a e : ℕ} {ls ks : List Span} → p ≤ a → Bare bytes p a → LineEnd bytes a e → Reads bytes e ls ks
      → Reads bytes p ((p, a) ∷ ls) ((p, e) ∷ ks)
  last : {p : ℕ} → p < length bytes → Bare bytes p (length bytes)
      → Reads bytes p ((p, length bytes) ∷ []) ((p, length bytes) ∷ [])

-- the law of the lines: the text is read line by line, and the lines with their ends make up its bytes
pub record LinesLaw (bytes : List ℕ) : Type 0 where
  pub reads : Reads bytes 0 (lines_of bytes false) (lines_of bytes true)
  pub whole : concat (map (part bytes) (lines_of bytes true)) ≡ bytes
