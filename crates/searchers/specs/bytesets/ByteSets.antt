-- What a set of bytes shows. Assumes nothing.
use Rattle.std.specs.Prelude.{ℕ, Bool}
use Rattle.searchers.specs.bytesets.Sets.{member}
use Rattle.searchers.specs.declared.bytesets.byteset.ByteSet.{ByteSet}

-- whether a byte is in the set
abbrev pub has_byte : ByteSet → ℕ → Bool
has_byte set b = member set.has b
