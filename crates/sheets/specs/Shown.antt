-- A text as it is shown: what could disturb the layout is spelled out. Assumes nothing.
use Rattle.std.specs.Prelude.{ℕ, ◌+◌, ◌/◌, ◌%◌, Bool, if◌then◌else◌, ◌&&◌, not, List, [], ◌∷◌, ◌++◌, ◌==◌, nat_le}
use Rattle.std.specs.Prelude.{nat_lt}

-- a hexadecimal digit, in lower case
abbrev pub hex : ℕ → ℕ
hex n = if nat_lt n 10 then 48 + n else 87 + n

-- whether a byte is shown as itself: printable ASCII, but no backslash
abbrev pub is_plain : ℕ → Bool
is_plain b = nat_le 32 b && (nat_lt b 127 && not (b == 92))

-- a byte spelled out: a tab is `\t`, a line feed `\n`, a carriage return `\r`, a backslash `\\`, any other `\x` with
-- two digits
abbrev pub spelled : ℕ → List ℕ
spelled b =
    if b == 9 then 92 ∷ 116 ∷ []
    else (if b == 10 then 92 ∷ 110 ∷ []
    else (if b == 13 then 92 ∷ 114 ∷ []
    else (if b == 92 then 92 ∷ 92 ∷ []
    else 92 ∷ 120 ∷ hex (b / 16) ∷ hex (b % 16) ∷ [])))

-- a byte by itself
abbrev pub shown_byte : ℕ → List ℕ
shown_byte b = if is_plain b then b ∷ [] else spelled b

-- an element: of several bytes it is a character beyond ASCII, and is shown as it is
abbrev pub shown_element : List ℕ → List ℕ
shown_element [] = []
shown_element (b ∷ []) = shown_byte b
shown_element (b ∷ c ∷ bs) = b ∷ c ∷ bs

-- a text, by its elements
abbrev pub shown : List (List ℕ) → List ℕ
shown [] = []
shown (e ∷ es) = shown_element e ++ shown es
