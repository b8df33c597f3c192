-- Line ends lie on boundaries. Assumes nothing.
use Rattle.std.specs.Prelude.{slice_index}
use Rattle.std.proofs.Common.{◌≡◌, ℕ, suc, ◌<◌, List, refl, sym, subst, arith}
use Rattle.std.specs.List.{concat}
use Rattle.anystr.specs.Elements.{Boundary}
use Rattle.searchers.specs.Ascii.{AsciiApart}
use Rattle.searchers.specs.Marks.{Bounded}
use Rattle.searchers.specs.lineends.Lines.{LineEnd, pair, lone_cr, lone_lf, line_end, line_end-is, stands}

-- a byte of a line end begins and ends at boundaries
line_byte-on : (es : List (List ℕ)) (a e x : ℕ) → AsciiApart es → 0 < x → x < 128
    → slice_index (concat es) a ≡ x → e ≡ suc a → Boundary es a × Boundary es e
line_byte-on es a e x apart some low is end =
    let on = apart a (stands (concat es) a x some is) (omega arith) in
    (on.0, subst (Boundary es) (sym end) on.1)

-- so does a line end
line_end-on : (es : List (List ℕ)) (a e : ℕ) → AsciiApart es → LineEnd (concat es) a e → Boundary es a × Boundary es e
line_end-on es a e apart (pair x y z) =
    let begins = line_byte-on es a (suc a) 13 apart (omega arith) (omega arith) x refl in
    let ends = line_byte-on es (suc a) e 10 apart (omega arith) (omega arith) y (omega arith) in
    (begins.0, ends.1)
line_end-on es a e apart (lone_cr x y z) = line_byte-on es a e 13 apart (omega arith) (omega arith) x z
line_end-on es a e apart (lone_lf x y z) = line_byte-on es a e 10 apart (omega arith) (omega arith) x z

-- and so does each of their marks
pub line-ends_on : (es : List (List ℕ)) → AsciiApart es → Bounded es (line_end (concat es))
line-ends_on es apart a e m = line_end-on es a e apart (line_end-is (concat es) a e m)
