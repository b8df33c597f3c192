-- The marks of a set of bytes below 128 lie on boundaries. Assumes nothing.
use Rattle.std.specs.Prelude.{ℕ, Bool, List}
use Rattle.std.proofs.Common.{sym, subst}
use Rattle.std.specs.List.{concat}
use Rattle.anystr.specs.Elements.{Boundary}
use Rattle.searchers.specs.Ascii.{AsciiApart}
use Rattle.searchers.specs.Marks.{Bounded}
use Rattle.searchers.specs.bytesets.Sets.{AllBelow, single_bytes, single_bytes-is}

-- a byte below 128 begins and ends at boundaries
pub single_bytes-bounded : (set : ℕ → Bool) → AllBelow set 128 → (es : List (List ℕ)) → AsciiApart es
    → Bounded es (single_bytes set (concat es))
single_bytes-bounded set low es apart a e m =
    let s = single_bytes-is set (concat es) a e m in
    let b = apart a s.within (low _ s.has) in
    (b.0, subst (Boundary es) (sym s.end) b.1)
