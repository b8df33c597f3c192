-- What the check of the kind Text answers. Assumes nothing.
use Rattle.std.specs.Prelude.{◌≡◌, ℕ, ◌<◌, ◌≤◌, ◌⊎◌, List, length, Result, MatchResult}
use Rattle.utf8.specs.Table.{IsWellFormed, IsLongestFormed}
use Rattle.anystr.specs.declared.refusal.Refusal.{Refusal}
use Rattle.anystr.specs.Limits.{most_bytes}
use Rattle.anystr.specs.Refusals.{code}

-- bytes that can be a Text
abbrev pub IsTextual : List ℕ → Type 0
IsTextual bs = (length bs ≤ most_bytes) × IsWellFormed bs

-- more bytes than a text may have, and their refusal
abbrev pub RefusesLong : List ℕ → Refusal → Type 0
RefusesLong bs e = (most_bytes < length bs) × (code e ≡ (6, 0))

-- bytes that are not too many and not well formed, and their refusal, with their longest well-formed beginning
abbrev pub RefusesIllFormed : List ℕ → Refusal → Type 0
RefusesIllFormed bs e =
    (length bs ≤ most_bytes) × (¬ IsWellFormed bs) × ((n : ℕ) × IsLongestFormed bs n × (code e ≡ (10, n)))

-- the answer of the check; the length is looked at first
abbrev pub ChecksText : {X : Type 0} → List ℕ → Result X Refusal → Type 0
ChecksText bs r = MatchResult r (λ _. IsTextual bs) (λ e. RefusesLong bs e ⊎ RefusesIllFormed bs e)
