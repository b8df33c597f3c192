-- Words in which bytes are spelled out, as they are read. Assumes nothing.
use Rattle.std.specs.Prelude.{ℕ, zero, suc, ◌+◌, ◌-◌, ◌*◌, if◌then◌else◌, ◌&&◌, ◌==◌, nat_le, List, [], ◌∷◌, ◌++◌, Some}
use Rattle.std.specs.Prelude.{None, Ok, Err}
use Rattle.std.specs.Prelude.{Option, Result}
use Rattle.sheets.specs.declared.read.EscapeError.{EscapeError}
use Rattle.sheets.specs.declared.read.EscapeError.TheVariants.{Unknown, Digits, Cut}

-- the value of a hexadecimal digit, in lower or upper case
abbrev pub digit : ℕ → Option ℕ
digit c =
    if nat_le 48 c && nat_le c 57 then Some (c - 48)
    else (if nat_le 97 c && nat_le c 102 then Some (c - 87)
    else (if nat_le 65 c && nat_le c 70 then Some (c - 55)
    else None))

-- the byte that two digits name
abbrev pub of_digits : Option ℕ → Option ℕ → Result (ℕ × ℕ) EscapeError
of_digits (Some high) (Some low) = Ok (16 * high + low, 3)
of_digits (Some high) None = Err Digits
of_digits None low = Err Digits

-- `\x`, by the bytes after it
abbrev pub hex_escape : List ℕ → Result (ℕ × ℕ) EscapeError
hex_escape [] = Err Digits
hex_escape (h ∷ []) = Err Digits
hex_escape (h ∷ l ∷ bs) = of_digits (digit h) (digit l)

-- The byte that an escape names, by the bytes after its backslash, and how many of these it takes: `t` is a tab, `n` a
-- line feed, `r` a carriage return, `\` a backslash, and `x` with two digits the byte of this value.
abbrev pub escape : List ℕ → Result (ℕ × ℕ) EscapeError
escape [] = Err Cut
escape (c ∷ bs) =
    if c == 116 then Ok (9, 1)
    else (if c == 110 then Ok (10, 1)
    else (if c == 114 then Ok (13, 1)
    else (if c == 92 then Ok (92, 1)
    else (if c == 120 then hex_escape bs
    else Err (Unknown c)))))

-- bytes before what the rest of a word names, if that can be read
abbrev pub before : List ℕ → Result (List ℕ) EscapeError → Result (List ℕ) EscapeError
before done (Ok bs) = Ok (done ++ bs)
before done (Err e) = Err e

-- what a word names, by what it begins with and what the rest names
abbrev pub named : Result (ℕ × ℕ) EscapeError → Result (List ℕ) EscapeError → Result (List ℕ) EscapeError
named (Ok e) bs = before (e.0 ∷ []) bs
named (Err e) bs = Err e

-- how many bytes are taken after the first
abbrev pub taken : Result (ℕ × ℕ) EscapeError → ℕ
taken (Ok e) = e.1
taken (Err e) = 0

-- the byte that a byte names, with the bytes after it, and how many of these it takes: outside of escapes itself
abbrev pub named_at : ℕ → List ℕ → Result (ℕ × ℕ) EscapeError
named_at b bs = if b == 92 then escape bs else Ok (b, 0)

-- the bytes that a word names past its first `n` bytes
abbrev pub read_past : ℕ → List ℕ → Result (List ℕ) EscapeError
read_past n [] = Ok []
read_past zero (b ∷ bs) = named (named_at b bs) (read_past (taken (named_at b bs)) bs)
read_past (suc n) (b ∷ bs) = read_past n bs

-- the bytes that a word names
abbrev pub unescaped : List ℕ → Result (List ℕ) EscapeError
unescaped = read_past 0
