-- Marks cut out of a text, and another text in their place.
use Rattle.std.proofs.Common.{◌≡◌, ℕ, leb, List, [], ◌∷◌, ◌++◌, length, pos, sym, refl, ap, ◌∙◌, arith}
use Rattle.std.proofs.lemmas.List.{take_rest}
use Rattle.std.proofs.lemmas.Bool.{le-ltb, cond-false, and_right}
use Rattle.searchers.specs.Marks.{Span}
use Rattle.cuts.specs.Cuts.{cuts, between, poured}
use Rattle.cuts.proofs.Splits.{with_more}
use Rattle.anystr.specs.Places.{part, join_parts}

-- no cut is fewer than the bound 0
pub no_cuts : (made place : ℕ) (ms : List Span) → cuts (pos 0) made place ms ≡ []
no_cuts made place [] = refl
no_cuts made place (m ∷ ms) =
    cond-false _ _ _ (and_right (leb place m.0) _ (le-ltb made 0 (omega arith))) ∙ no_cuts made place ms

-- what is poured is the pieces joined
pub poured-joined : (bytes to : List ℕ) (place : ℕ) (ms : List Span)
    → poured bytes to place ms ≡ join_parts to bytes (between place (length bytes) ms)
poured-joined bytes to place [] = sym (take_rest bytes place)
poured-joined bytes to place (m ∷ ms) =
    let front = part bytes (place, m.0) in
    ap (λ r. front ++ (to ++ r)) (poured-joined bytes to m.1 ms) ∙ sym (with_more to bytes front m.1 (length bytes) ms)
