-- What a searcher for a needle shows. Assumes nothing.
use Rattle.std.specs.Prelude.{ℕ, List}
use Rattle.searchers.specs.declared.substring.Needle.{Needle}
use Rattle.searchers.specs.declared.substring.Substring.{Substring}

-- the text that it looks for
abbrev pub needle_of : {S C : Type 0} → Substring S C → S
needle_of searcher = searcher.needle

-- the bytes that a pattern looks for
abbrev pub needle_bytes : Needle → List ℕ
needle_bytes pattern = pattern.bytes.now
