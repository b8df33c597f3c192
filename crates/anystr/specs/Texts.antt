-- What a text of any kind is made of. Assumes nothing.
use Rattle.std.specs.Prelude.{ℕ, List}
use Rattle.std.specs.List.{concat}
use Rattle.anystr.specs.declared.anystr.AnyStr

-- its bytes: those of its elements, in their order
abbrev pub bytes_of : {S C : Type 0} → AnyStr.Ghosts S C → S → List ℕ
bytes_of kind text = concat (kind.elements text)
