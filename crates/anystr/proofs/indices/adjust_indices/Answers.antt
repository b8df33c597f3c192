use Rattle.std.proofs.Common.{◌≡◌, ℕ, ℤ, min, Some, None, Option, rules}
use Rattle.std.specs.Prelude.{MatchOption}
use Rattle.anystr.specs.Indices.{offset_of, end_of}
use Rattle.anystr.proofs.indices.adjust_indices.Goals as goal

at_end : (Q : ℤ → Type 0) (end : Option ℤ) (len r : ℕ)
    → MatchOption end (r ≡ len) Q → ((i : ℤ) → Q i → r ≡ min (offset_of i len) len) → r ≡ end_of end len
at_end Q None len r h q = h
at_end Q (Some i) len r h q = q i h

pub returns-clause-end : goal.returns-clause-end
returns-clause-end c = at_end _ c.args.end c.args.len c.map_or-to.result c.map_or-to.ensures (λ i q. search rules)
