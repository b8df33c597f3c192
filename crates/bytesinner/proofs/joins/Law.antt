-- The law of a join.
use Rattle.std.proofs.Common.{◌≡◌, ℕ, zero, suc, ◌+◌, ◌<◌, Bool, true, false, cond, List, [], ◌∷◌, map, length, get_or}
use Rattle.std.proofs.Common.{Some, None, Option, sym, refl, ◌∙◌, subst, arith}
use mathlib.Core.Bool.{false≢true}
use Rattle.std.specs.List.{concat}
use Rattle.std.proofs.lemmas.List.{length-map}
use Rattle.bytesinner.specs.joins.Joins.{can_cut, first_bad, Good, BadAt, Judged, JoinLaw}
use Rattle.anystr.specs.Places.{part}
use Rattle.bytesinner.proofs.joins.Places.{cut_from, cut-true}
use Rattle.bytesinner.proofs.joins.Joining.{join_size}

-- the first bad place, where the first of these has the index `at`
abbrev JudgedFrom : List (List ℕ) → ℕ → List (ℕ × ℕ) → Option ℕ → Type 0
JudgedFrom es at ps None = (k : ℕ) → k < length ps → Good es (get_or ps k (0, 0))
JudgedFrom es at ps (Some i) = (j : ℕ) × (i ≡ at + j) × BadAt es ps j

-- good places behind a good one
first : (es : List (List ℕ)) (p : ℕ × ℕ) (ps : List (ℕ × ℕ)) (n : ℕ) → Good es p
    → ((k : ℕ) → k < n → Good es (get_or ps k (0, 0))) → (k : ℕ) → k < suc n → Good es (get_or (p ∷ ps) k (0, 0))
first es p ps n good rest zero h = good
first es p ps n good rest (suc k) h = rest k (omega arith)

-- a good place ahead of them
ahead : (es : List (List ℕ)) (at : ℕ) (p : ℕ × ℕ) (ps : List (ℕ × ℕ)) → Good es p → (o : Option ℕ)
    → JudgedFrom es (suc at) ps o → JudgedFrom es at (p ∷ ps) o
ahead es at p ps good None all = first es p ps (length ps) good all
ahead es at p ps good (Some i) (j, is, b) = (
  suc j,
  omega arith,
  record { within = omega (arith, b.within); bad = b.bad; before = first es p ps j good b.before },
)

-- the definition tells the first bad place
judged-from : (es : List (List ℕ)) (at : ℕ) (ps : List (ℕ × ℕ)) → JudgedFrom es at ps (first_bad es at ps)
judged-from es at [] = λ k h. absurd (omega arith)
judged-from es at (p ∷ ps) = by (can_cut es p) refl (judged-from es (suc at) ps)
  where
    by : (b : Bool) → can_cut es p ≡ b → JudgedFrom es (suc at) ps (first_bad es (suc at) ps)
        → JudgedFrom es at (p ∷ ps) (cond b (first_bad es (suc at) ps) (Some at))
    by true e rest = ahead es at p ps (cut_from es p e) (first_bad es (suc at) ps) rest
    by false e rest = (
      0,
      omega arith,
      record {
        within = omega arith;
        bad = λ g. false≢true (sym e ∙ cut-true es p g);
        before = λ k h. absurd (omega arith);
      },
    )

-- the same where the first has the index 0
judged : (es : List (List ℕ)) (ps : List (ℕ × ℕ)) (o : Option ℕ) → JudgedFrom es 0 ps o → Judged es ps o
judged es ps None all = all
judged es ps (Some i) (j, is, b) = let same : j ≡ i = omega arith in subst (BadAt es ps) same b

-- the definition keeps the law
pub join_law : (sep : List ℕ) (es : List (List ℕ)) (ps : List (ℕ × ℕ)) → JoinLaw sep es ps
join_law sep es ps = record {
  judged = judged es ps (first_bad es 0 ps) (judged-from es 0 ps);
  size = rw length-map at (join_size sep (map (part (concat es)) ps));
}
