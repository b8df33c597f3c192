-- One turn of a pass over the pieces that are poured.
use Rattle.std.proofs.Common.{◌≡◌, ℕ, ◌-◌, cond, List, [], ◌++◌, length, take, drop}
use Rattle.std.proofs.Common.{Some, sym, ap, ◌∙◌}
use Rattle.std.specs.List.{concat}
use Rattle.anystr.specs.declared.anystr.AnyStr
use Rattle.searchers.specs.Marks.{Span, Lawful}
use Rattle.searchers.specs.declared.searcher.Searcher
use Rattle.cuts.specs.Cuts.{Opening, size, State}
use Rattle.cuts.specs.Runs.{Step, next}
use Rattle.cuts.proofs.Left.{to_pour, Gave, gave}
use Rattle.cutters.specs.Calls.{opening, state, SameOpening}
use Rattle.cutters.specs.declared.cutter.Cutter.{Cutter}
use Rattle.cutters.proofs.Same.{step_on}

module _ (on : Opening) (law : Lawful on.marks (size on)) (to : List ℕ) where
  -- the bytes of a piece, those of `to` unless it is the last, and then the bytes that are still to come
  pub turn : (s t : State) (p : Span) → Step on s (next (Some p)) t → (bytes piece gap : List ℕ) → bytes ≡ on.bytes
      → piece ≡ take (p.1 - p.0) (drop p.0 bytes) → gap ≡ cond t.spent [] to
      → to_pour on to s ≡ piece ++ (gap ++ to_pour on to t)
  turn s t p st bytes piece gap eb ep eg =
      (gave on law s.place s.made s.spent p t st).pour to
      ∙ (λ i. (sym (ep ∙ ap (λ (b : List ℕ). take (p.1 - p.0) (drop p.0 b)) eb) i) ++ (sym eg i ++ to_pour on to t))

module _
    {S F C : Type 0} {s : AnyStr.Ghosts S C} {f : Searcher.Ghosts F S C} (k here after : Cutter S F C s f) (p : Span)
  where
    -- what next gave of a cutter that was opened as `k`
    pub gave_on : Lawful (f.marks k.searcher (s.elements k.text)) (length (concat (s.elements k.text)))
        → SameOpening k here → Step (opening here) (state here) (next (Some p)) (state after)
        → Gave (opening k) (state here) p (state after)
    gave_on law same step =
        let q = here.progress in
        gave (opening k) law q.place q.made q.spent p (state after) (step_on k here after p same step)

    -- and how the bytes to come begin with the piece
    pub turned : Lawful (f.marks k.searcher (s.elements k.text)) (length (concat (s.elements k.text)))
        → SameOpening k here → Step (opening here) (state here) (next (Some p)) (state after)
        → (to bytes piece gap : List ℕ) → bytes ≡ concat (s.elements k.text) → piece ≡ take (p.1 - p.0) (drop p.0 bytes)
        → gap ≡ cond after.progress.spent [] to
        → to_pour (opening k) to (state here) ≡ piece ++ (gap ++ to_pour (opening k) to (state after))
    turned law same step to bytes piece gap =
        turn (opening k) law to (state here) (state after) p (step_on k here after p same step) bytes piece gap
