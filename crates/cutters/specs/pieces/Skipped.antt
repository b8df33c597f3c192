-- A source of pieces whose first pieces are passed over. Assumes nothing.
use Rattle.std.specs.Prelude.{◌≡◌, ℕ, ◌-◌, List, [], ◌∷◌, ◌++◌, map, length, drop, Some, None, Option}
use Rattle.std.specs.Iterator.{Count, at_most, count_map, Yields, YieldsFirstBy}
use Rattle.std.specs.Iterator.Adapters.{skip_source, skip_count, skip_steps}
use Rattle.std.specs.declared.iter.Skip.{Skip}
use Rattle.std.proofs.Common.{sym, ap, ◌∙◌, arith, length-drop, length-append}
use Rattle.std.proofs.Math.Seq.{drop-append_seam, drop-nil}
use Rattle.std.proofs.lemmas.List.{length-map, drop_all}
use Rattle.searchers.specs.Marks.{Span}
use Rattle.cutters.specs.Calls.{span}
use Rattle.cutters.specs.pieces.Sources.{CountsDown}
use Rattle.cutters.specs.declared.piece.Piece.{Piece}

module _ {S : Type 0} (left : S → List Span) where
  -- what is left after those that are still to be passed over
  abbrev pub left_after : Skip S → List Span
  left_after s = drop (skip_count s) (left (skip_source s))

  -- no more come than are left, and these are no more than were left before
  pub skip_counts : (remaining : S → Count) (s : Skip S) → CountsDown (remaining (skip_source s)) (left (skip_source s))
      → CountsDown (count_map (λ n. n - skip_count s) (remaining (skip_source s))) (left_after s)
  skip_counts remaining s c = record {
    all =
        ap (count_map (λ n. n - skip_count s)) c.all
        ∙ ap at_most (sym (length-drop (skip_count s) (left (skip_source s))));
    few = omega (arith, c.few, length-drop (skip_count s) (left (skip_source s)));
  }

  module _
      (steps : S → Option Piece → S → Type 0)
      (gives : (s : S) (r : Option Piece) (t : S) → steps s r t → YieldsFirstBy span left s r t)
    where
      -- what came, and what is left after it, was left before
      came : (s t : S) (ps : List Piece) → Yields steps s ps t → left s ≡ map span ps ++ left t
      came s t [] h = ap left h
      came s t (p ∷ ps) h = gives s (Some p) h.0 h.1 ∙ ap (λ (qs : List Span). span p ∷ qs) (came h.0 t ps h.2)

      -- the next piece is the first of those that are left
      pub skip_gives : (s : Skip S) (r : Option Piece) (t : Skip S) → skip_steps steps s r t
          → YieldsFirstBy span left_after s r t
      skip_gives s None t h =
          let u = h.1.1.0 in
          let none = gives u None (skip_source t) h.1.1.2 in
          let before : left (skip_source s) ≡ map span h.1.0 ++ [] =
          came (skip_source s) u h.1.0 h.1.1.1 ∙ ap (λ (qs : List Span). map span h.1.0 ++ qs) none.0 in (
            drop_all (skip_count s) (left (skip_source s))
                (omega (arith, ap length before, length-append (map span h.1.0) [], length-map h.1.0 span, h.1.2)),
            ap (drop (skip_count t)) none.1 ∙ drop-nil (skip_count t),
          )
      skip_gives s (Some p) t h =
          let u = h.1.1.0 in
          let one = gives u (Some p) (skip_source t) h.1.1.2 in
          let before = came (skip_source s) u h.1.0 h.1.1.1 in
          let n : skip_count s ≡ length (map span h.1.0) = sym (length-map h.1.0 span ∙ h.1.2) in
          ap (drop (skip_count s)) before
          ∙ (ap (λ (k : ℕ). drop k (map span h.1.0 ++ left u)) n
          ∙ (drop-append_seam (map span h.1.0) (left u)
          ∙ (one ∙ ap (λ (k : ℕ). span p ∷ drop k (left (skip_source t))) (sym h.0))))
