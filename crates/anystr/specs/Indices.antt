-- Optional start and end of a search, as slices count them. Assumes nothing.
use Rattle.std.specs.Prelude.{ℕ, suc, ◌-◌, min, ℤ, pos, negsuc, Some, None, Option}

-- the offset that an index into `len` bytes means: the length is added to a negative one, and it is cut below at 0
abbrev pub offset_of : ℤ → ℕ → ℕ
offset_of (pos i) len = i
offset_of (negsuc i) len = len - suc i

-- the offset that a start means; an absent one is 0
abbrev pub start_of : Option ℤ → ℕ → ℕ
start_of None len = 0
start_of (Some i) len = offset_of i len

-- the offset that an end means; an absent one is the length, and one past the length is cut to it
abbrev pub end_of : Option ℤ → ℕ → ℕ
end_of None len = len
end_of (Some i) len = min (offset_of i len) len
