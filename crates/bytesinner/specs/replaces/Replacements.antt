-- What a replacement gives, as the code holds it. Assumes nothing.
use Rattle.std.specs.Prelude.{ℕ, List}
use Rattle.anystr.specs.Texts.{bytes_of}
use Rattle.anystr.specs.declared.anystr.AnyStr
use Rattle.bytesinner.specs.replaces.Replaces.{spread_text, poured_text, replaced_text}
use Rattle.bytesinner.specs.declared.replaces.Replacement.{Replacement}

module _ {S C : Type 0} (s : AnyStr.Ghosts S C) where
  -- `to` in place of each occurrence of a nonempty `from`
  abbrev pub marks_replaced : Replacement S C → List ℕ
  marks_replaced r = poured_text (s.elements r.text) (bytes_of s r.from) (bytes_of s r.to) r.bound

  -- `to` before each element and at the end
  abbrev pub copies_spread : Replacement S C → List ℕ
  copies_spread r = spread_text (bytes_of s r.to) r.bound 0 (s.elements r.text)

  -- `to` in place of `from`, which may be empty
  abbrev pub all_replaced : Replacement S C → List ℕ
  all_replaced r = replaced_text (s.elements r.text) (bytes_of s r.from) (bytes_of s r.to) r.bound
