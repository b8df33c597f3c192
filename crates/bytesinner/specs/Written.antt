-- What a call says of the places that it wrote. Assumes nothing.
use Rattle.std.specs.Prelude.{ℕ, List, take, IfOk, Result}
use Rattle.anystr.specs.Elements.{Cut}
use Rattle.anystr.specs.Places.{stretches}
use Rattle.anystr.specs.declared.place.Place.{Place}
use Rattle.anystr.specs.declared.refusal.Refusal.{Refusal}
use Rattle.searchers.specs.Marks.{Span}
use Rattle.cuts.specs.Runs.{In}

-- a fact about the places that were written, if they were
abbrev pub OfWritten : (List Span → Type 0) → List Place → Result ℕ Refusal → Type 0
OfWritten P list' r = IfOk r (λ n. P (stretches (take n list')))

-- each place can be cut out of the text
abbrev pub Cuttable : List (List ℕ) → List Span → Type 0
Cuttable es places = (p : Span) → In p places → Cut es p.0 p.1
