-- What the written places keep.
use Rattle.std.proofs.Common.{◌≡◌, ℕ, ◌-◌, IsTrue, List, [], ◌∷◌, length, take, drop, ℤ, Ok, Err, Result, sym}
use Rattle.std.proofs.Common.{refl, ap, ◌∙◌, subst, arith}
use Rattle.std.specs.List.{concat}
use Rattle.anystr.specs.Elements.{Boundary, OccursOnBoundaries}
use Rattle.anystr.specs.Places.{Lists, part}
use Rattle.anystr.specs.declared.place.Place.{Place}
use Rattle.anystr.specs.declared.refusal.Refusal.{Refusal}
use Rattle.searchers.specs.Marks.{Span}
use Rattle.searchers.specs.substring.Occurrences.{occurrence, occurrence-is, occurrence-lawful}
use Rattle.cuts.specs.Runs.{In}
use Rattle.cuts.specs.Splits.{SplitBy}
use Rattle.cuts.proofs.Splits.{split-rule, rsplit-rule, split_restores, split_on}
use Rattle.anystr.proofs.Boundaries.{end_on}
use Rattle.bytesinner.specs.Written.{OfWritten, Cuttable}
use Rattle.bytesinner.specs.splits.Separated.{unless_empty, split_of, rsplit_of, SplitFront, SplitBack, Restore}
use Rattle.bytesinner.proofs.Written.{written}

-- what holds of the pieces holds of the places that are written
split_written : (P : List Span → Type 0) (sep : List ℕ) (ps : List Span) → P ps
    → (list list' : List Place) (r : Result ℕ Refusal) → Lists (unless_empty sep ps) list list' r → OfWritten P list' r
split_written P [] ps p list list' (Ok n) h = let z : ◌≡◌ {A = ℕ} 0 1 = let e = h.0 in cc in absurd (omega arith)
split_written P [] ps p list list' (Err e) h = tt
split_written P (b ∷ bs) ps p list list' r h = written P ps p list list' r h

-- an occurrence of the separator reads as it
reads : (bytes sep : List ℕ) (m : Span) → IsTrue (occurrence sep bytes m.0 m.1) → part bytes m ≡ sep
reads bytes sep m is =
    let o = occurrence-is sep bytes m.0 m.1 is in
    let long : m.1 - m.0 ≡ length sep = omega arith in
    ap (λ (n : ℕ). take n (drop m.0 bytes)) long ∙ o.occurs

-- and begins and ends at boundaries
on-boundaries : (es : List (List ℕ)) (sep : List ℕ) → OccursOnBoundaries es sep → (m : Span)
    → IsTrue (occurrence sep (concat es) m.0 m.1) → Boundary es m.0 × Boundary es m.1
on-boundaries es sep whole m is =
    let o = occurrence-is sep (concat es) m.0 m.1 is in
    let b = whole m.0 o.nonempty o.occurs in
    (b.0, subst (Boundary es) (sym o.end) b.1)

-- the laws of a call that writes what a text is split into
pub record Kept (Split : List Span → Type 0) (es : List (List ℕ)) (sep : List ℕ) (list' : List Place)
    (r : Result ℕ Refusal) : Type 0 where
  pub rule : OfWritten Split list' r
  pub restores : OfWritten (Restore (concat es) sep) list' r
  pub cut : OfWritten (Cuttable es) list' r

-- they hold where each cut of the rule is an occurrence of the separator
module _ (Rule : List Span → Type 0) (es : List (List ℕ)) (sep : List ℕ) (whole : OccursOnBoundaries es sep)
    (marked : (cut : List Span) → Rule cut → (m : Span) → In m cut → IsTrue (occurrence sep (concat es) m.0 m.1))
    (ps : List Span) (by : SplitBy Rule (length (concat es)) ps) where
  -- what is cut begins and ends at boundaries, and reads as the separator
  bounded : (cut : List Span) → Rule cut → (m : Span) → In m cut → Boundary es m.0 × Boundary es m.1
  bounded cut rule m k = on-boundaries es sep whole m (marked cut rule m k)

  read : (cut : List Span) → Rule cut → (m : Span) → In m cut → part (concat es) m ≡ sep
  read cut rule m k = reads (concat es) sep m (marked cut rule m k)

  cuttable : Cuttable es ps
  cuttable p h =
      let on = split_on (Boundary es) Rule (length (concat es)) ps (0, refl) (end_on es) bounded by p h in
      record { order = on.0; start = on.1; end = on.2 }

  kept : (list list' : List Place) (r : Result ℕ Refusal) → Lists (unless_empty sep ps) list list' r
      → Kept (SplitBy Rule (length (concat es))) es sep list' r
  kept list list' r h =
      let restores = split_restores Rule sep (concat es) ps read by in
      record {
        rule = split_written (SplitBy Rule (length (concat es))) sep ps by list list' r h;
        restores = split_written (Restore (concat es) sep) sep ps restores list list' r h;
        cut = split_written (Cuttable es) sep ps cuttable list list' r h;
      }

-- split and rsplit keep them
module _ (es : List (List ℕ)) (sep : List ℕ) (whole : OccursOnBoundaries es sep) (maxsplit : ℤ)
    (list list' : List Place) (r : Result ℕ Refusal) where
  pub split-kept : Lists (split_of (concat es) sep maxsplit) list list' r
      → Kept (SplitFront (concat es) sep maxsplit) es sep list' r
  split-kept h =
      kept _ es sep whole (λ cut rule m k. (rule.marked m k).0) _
      (split-rule maxsplit (occurrence-lawful sep (concat es))) list list' r h

  pub rsplit-kept : Lists (rsplit_of (concat es) sep maxsplit) list list' r
      → Kept (SplitBack (concat es) sep maxsplit) es sep list' r
  rsplit-kept h =
      kept _ es sep whole (λ cut rule m k. (rule.marked m k).0) _
      (rsplit-rule maxsplit (occurrence-lawful sep (concat es))) list list' r h
