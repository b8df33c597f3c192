-- What a step of next gives, as an iterator over the items that are left has it.
use Rattle.std.proofs.Common.{◌≡◌, Bool, true, false, ℕ, List, ◌∷◌, Some, None, Option, sym, refl, ap, ◌∙◌, subst}
use Rattle.std.specs.Iterator.{YieldsFirst, YieldsFirstBy}
use Rattle.std.specs.Option.{option_map}
use Rattle.searchers.specs.Marks.{Span, Lawful}
use Rattle.cuts.specs.Cuts.{Opening, size, State, at, pieces_left, next_of}
use Rattle.cuts.specs.Runs.{Step, next}
use Rattle.cuts.proofs.Left.{nexted}

-- what is given, with the state after it, is the first of the items that are left
abbrev pub GivesFirst : {A S : Type 0} → (S → List A) → S → Option A × S → Type 0
GivesFirst left s n = YieldsFirst left s n.0 n.1

-- A source has left what its state has. Where its answer, read by `view`, and its state after it are what gives the
-- first of those, it gives the first itself.
pub seen_yields : {A B S T : Type 0} (view : A → B) (left : T → List B) (now : S → List B)
    (c : T) (r : Option A) (d : T) {s t : S} {n : Option B × S}
    → left c ≡ now s → left d ≡ now t → (option_map view r, t) ≡ n → GivesFirst now s n → YieldsFirstBy view left c r d
seen_yields view left now c None d {s = s} before after e h =
    let none = subst (GivesFirst now s) (sym e) h in (before ∙ none.0, after ∙ none.1)
seen_yields view left now c (Some x) d {s = s} before after e h =
    before ∙ (subst (GivesFirst now s) (sym e) h ∙ ap (λ ys. view x ∷ ys) (sym after))

module _ (on : Opening) (law : Lawful on.marks (size on)) (place made : ℕ) where
  -- what next gives is the first of the pieces that are left
  pub next_yields : (spent : Bool)
      → GivesFirst (pieces_left on) (at place made spent) (next_of on (at place made spent))
  next_yields true = (refl, refl)
  next_yields false =
      let n = nexted on law place made in
      subst (GivesFirst (pieces_left on) (at place made false)) (sym n.is) n.pieces

-- a step gives it too, read from what is given by `view`
pub step_yields : {A : Type 0} (view : A → Span) (on : Opening) → Lawful on.marks (size on)
    → (place made : ℕ) (spent : Bool) (r : Option A) (t : State)
    → Step on (at place made spent) (next (option_map view r)) t
    → YieldsFirstBy view (pieces_left on) (at place made spent) r t
step_yields view on law place made spent r t h =
    let left = pieces_left on in
    seen_yields view left left _ r t refl refl (λ i. (h.0 i, h.1 i)) (next_yields on law place made spent)
