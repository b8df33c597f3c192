-- What the parts of a join give, as the code holds them. Assumes nothing.
use Rattle.std.specs.Prelude.{ℕ, List, Option}
use Rattle.anystr.specs.Places.{stretches, join_parts}
use Rattle.anystr.specs.Texts.{bytes_of}
use Rattle.anystr.specs.declared.anystr.AnyStr
use Rattle.bytesinner.specs.joins.Joins.{first_bad}
use Rattle.bytesinner.specs.declared.joins.Parts.{Parts}

module _ {S C : Type 0} {s : AnyStr.Ghosts S C} where
  -- the index of the first that is no part of the text
  abbrev pub bad_part : Parts S C s → Option ℕ
  bad_part p = first_bad (s.elements p.text) 0 (stretches p.places.now)

  -- their bytes, joined
  abbrev pub joined_parts : Parts S C s → List ℕ
  joined_parts p = join_parts (bytes_of s p.sep) (bytes_of s p.text) (stretches p.places.now)
