-- The marks of a set lie on boundaries.
use Rattle.std.proofs.Common.{ℕ, Bool, List, length, ap, arith}
use Rattle.std.specs.List.{concat}
use Rattle.anystr.specs.OfBytes.{singles, concat-singles, boundary}
use Rattle.searchers.specs.Marks.{Bounded}
use Rattle.searchers.specs.bytesets.Sets.{single_bytes, single_bytes-is}

-- in Bytes every offset is a boundary
pub bytes_on : (bs : List ℕ) (set : ℕ → Bool) → Bounded (singles bs) (single_bytes set (concat (singles bs)))
bytes_on bs set a e m =
    let s = single_bytes-is set (concat (singles bs)) a e m in
    let l = ap length (concat-singles bs) in
    (boundary bs a (omega arith), boundary bs e (omega arith))
