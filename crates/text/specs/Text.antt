-- What a text of the kind Text shows. Assumes nothing.
use Rattle.std.specs.Prelude.{ℕ, ◌≤◌, List, length}
use Rattle.anystr.specs.Limits.{most_bytes}
use Rattle.utf8.specs.Table.{IsWellFormed}
use Rattle.text.specs.declared.Text.{Text}

-- its bytes
abbrev pub text_bytes : Text → List ℕ
text_bytes t = t.text.now

-- they are well formed, and no more than a text may have
pub text_bytes-formed : (t : Text) → ∥ IsWellFormed (text_bytes t) ∥₁
text_bytes-formed t = t.formed

pub text_bytes-few : (t : Text) → length (text_bytes t) ≤ most_bytes
text_bytes-few t = t.few
