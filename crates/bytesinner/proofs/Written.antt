-- Places that were written, and what can be cut out of a text.
use Rattle.std.proofs.Common.{ℕ, List, [], ◌∷◌, Ok, Err, Result, sym, refl, subst, inl, inr, ⊎_elim}
use Rattle.anystr.specs.Elements.{Cut}
use Rattle.anystr.specs.Places.{Lists}
use Rattle.anystr.specs.declared.place.Place.{Place}
use Rattle.anystr.specs.declared.refusal.Refusal.{Refusal}
use Rattle.searchers.specs.Marks.{Span}
use Rattle.bytesinner.specs.Written.{OfWritten, Cuttable}

-- what holds of the stretches that a list was asked for holds of the places that were written
pub written : (P : List Span → Type 0) (ps : List Span) → P ps → (list list' : List Place) (r : Result ℕ Refusal)
    → Lists (Ok ps) list list' r → OfWritten P list' r
written P ps p list list' (Ok n) h = subst P (sym h.2) p
written P ps p list list' (Err e) h = tt

-- what can be cut out, stretch by stretch
module _ (es : List (List ℕ)) where
  pub cuttable-nil : Cuttable es []
  cuttable-nil q h = absurd h

  pub cuttable-cons : (p : Span) (ps : List Span) → Cut es p.0 p.1 → Cuttable es ps → Cuttable es (p ∷ ps)
  cuttable-cons p ps one more q h = ⊎_elim (λ is. subst (λ (s : Span). Cut es s.0 s.1) (sym is) one) (more q) h

  pub cuttable-head : (p : Span) (ps : List Span) → Cuttable es (p ∷ ps) → Cut es p.0 p.1
  cuttable-head p ps c = c p (inl refl)

  pub cuttable-tail : (p : Span) (ps : List Span) → Cuttable es (p ∷ ps) → Cuttable es ps
  cuttable-tail p ps c q h = c q (inr h)
