-- What the pieces of a cutter are, as an iterator has them. Assumes nothing.
use Rattle.std.specs.Prelude.{◌≡◌, ◌≤◌, [], ◌∷◌, length, Option, refl}
use Rattle.std.specs.Option.{MatchOption}
use Rattle.std.specs.Iterator.{YieldsFirstBy, at_most}
use Rattle.std.proofs.Common.{sym, subst}
use Rattle.anystr.specs.Limits.{most_bytes}
use Rattle.anystr.specs.Texts.{bytes_of}
use Rattle.anystr.specs.declared.anystr.AnyStr
use Rattle.searchers.specs.Marks.{Lawful}
use Rattle.searchers.specs.declared.searcher.Searcher
use Rattle.cuts.specs.Cuts.{Opening, pieces_left}
use Rattle.cuts.proofs.Sizes.{pieces_few}
use Rattle.cuts.proofs.Yielding.{step_yields}
use Rattle.cutters.specs.Calls.{opening, opening_of, state, left_pieces, span, SameOpening, NextStep}
use Rattle.cutters.specs.pieces.Sources.{CountsDown}
use Rattle.cutters.specs.declared.cutter.Cutter.{Cutter}
use Rattle.cutters.specs.declared.piece.Piece.{Piece}

module _ {S F C : Type 0} {s : AnyStr.Ghosts S C} {f : Searcher.Ghosts F S C} where
  -- a cutter on what it was opened on is opened on the same
  pub same_opening : (c d : Cutter S F C s f) → SameOpening c d → opening d ≡ opening c
  same_opening c d q = λ i. opening_of s f (q.text i) (q.searcher i) (q.bound i)

  module _
      (law : (searcher : F) (text : S) → Lawful (f.marks searcher (s.elements text)) (length (bytes_of s text)))
    where
      -- a next gives the first of the pieces that are left
      pub next_yields : (c d : Cutter S F C s f) (r : Option Piece) → NextStep c r d
          → YieldsFirstBy span left_pieces c r d
      next_yields c d r n =
          let p = c.progress in
          let same = same_opening c d n.same in
          subst
          (λ (o : Opening). MatchOption r
          ((left_pieces c ≡ []) × (pieces_left o (state d) ≡ []))
          (λ p. left_pieces c ≡ span p ∷ pieces_left o (state d)))
          (sym same)
          (step_yields span (opening c) (law c.searcher c.text) p.place p.made p.spent r (state d) n.step)

      -- as many come as are left, and these are few
      pub counts_down : ((text : S) → length (bytes_of s text) ≤ most_bytes) → (c : Cutter S F C s f)
          → CountsDown (at_most (length (left_pieces c))) (left_pieces c)
      counts_down few c = record {
        all = refl;
        few = pieces_few (opening c) (law c.searcher c.text) (few c.text) (state c);
      }
