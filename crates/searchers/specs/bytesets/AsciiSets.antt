-- What a set of bytes below 128 shows. Assumes nothing.
use Rattle.std.specs.Prelude.{ℕ, Bool}
use Rattle.searchers.specs.bytesets.ByteSets.{has_byte}
use Rattle.searchers.specs.declared.bytesets.asciiset.AsciiSet.{AsciiSet}

-- whether a byte is in the set
abbrev pub has_ascii : AsciiSet → ℕ → Bool
has_ascii set b = has_byte set.set b
