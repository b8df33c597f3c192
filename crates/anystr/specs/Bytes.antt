-- What a text of the kind Bytes shows. Assumes nothing.
use Rattle.std.specs.Prelude.{ℕ, ◌≤◌, List, length}
use Rattle.anystr.specs.Limits.{most_bytes}
use Rattle.anystr.specs.declared.bytes.Bytes.{Bytes}

-- its bytes
abbrev pub byte_list : Bytes → List ℕ
byte_list text = text.bytes.now

-- they are no more than a text may have
pub byte_list-few : (text : Bytes) → length (byte_list text) ≤ most_bytes
byte_list-few text = text.few
