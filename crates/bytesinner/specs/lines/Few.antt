-- How many lines there can be. Assumes nothing.
use Rattle.std.specs.Prelude.{◌≡◌, ℕ, suc, ◌≤◌, Bool, true, false, List, [], ◌∷◌, length, nat_lt, refl}
use Rattle.std.proofs.Common.{arith, ap}
use Rattle.std.proofs.lemmas.Bool.{cond_both}
use Rattle.searchers.specs.Marks.{Span}
use Rattle.bytesinner.specs.lines.Lines.{filled_pieces, with_ends, lines_from}

-- no more lines than pieces
filled_pieces-few : (ps : List Span) → length (filled_pieces ps) ≤ length ps
filled_pieces-few [] = omega arith
filled_pieces-few (p ∷ []) =
    cond_both (nat_lt p.0 p.1) (p ∷ []) [] (λ (qs : List Span). length qs ≤ 1) (λ _. omega arith) (λ _. omega arith)
filled_pieces-few (p ∷ q ∷ ps) = omega (arith, filled_pieces-few (q ∷ ps))

-- each line has its end
length-with_ends : (len : ℕ) (ps : List Span) → length (with_ends len ps) ≡ length ps
length-with_ends len [] = refl
length-with_ends len (p ∷ ps) = ap suc (length-with_ends len ps)

-- no more than the pieces
pub lines_from-few : (keepends : Bool) (len most : ℕ) (ps : List Span) → length ps ≤ most
    → length (lines_from keepends len ps) ≤ most
lines_from-few true len most ps few = omega (arith, length-with_ends len (filled_pieces ps), filled_pieces-few ps)
lines_from-few false len most ps few = omega (arith, filled_pieces-few ps)
