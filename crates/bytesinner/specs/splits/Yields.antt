-- What the pieces of a cutter from the end are, as an iterator has them. Assumes nothing.
use Rattle.std.specs.Prelude.{◌≡◌, ◌≤◌, Option}
use Rattle.std.specs.Iterator.{YieldsFirstBy, item_count}
use Rattle.std.proofs.Common.{refl}
use Rattle.anystr.specs.Limits.{most_bytes}
use Rattle.anystr.specs.declared.anystr.AnyStr
use Rattle.searchers.specs.Marks.{Lawful}
use Rattle.searchers.specs.declared.searcher.Searcher
use Rattle.cuts.specs.Cuts.{size}
use Rattle.cuts.specs.Splits.{left_back}
use Rattle.cuts.proofs.Back.{back_few, back_yields}
use Rattle.cuts.proofs.Yielding.{seen_yields}
use Rattle.cutters.specs.Calls.{span, opening_of}
use Rattle.cutters.specs.pieces.Sources.{CountsDown}
use Rattle.cutters.specs.declared.piece.Piece.{Piece}
use Rattle.bytesinner.specs.splits.Back.{opening, state, left_pieces, BackStep}
use Rattle.bytesinner.specs.declared.splits.back.BackCutter.{BackCutter}

module _ {S F C : Type 0} {s : AnyStr.Ghosts S C} {f : Searcher.Ghosts F S C} (c : BackCutter S F C s f)
    (law : Lawful (opening c).marks (size (opening c))) where
  -- a next gives the first of the pieces that are left
  pub next-yields : (r : Option Piece) (d : BackCutter S F C s f) → BackStep c r d
      → YieldsFirstBy span left_pieces c r d
  next-yields r d n =
      let q = n.same in
      let same : opening d ≡ opening c = λ i. opening_of s f (q.text i) (q.searcher i) (q.bound i) in
      let after : left_pieces d ≡ left_back (opening c) (state d) = λ i. left_back (same i) (state d) in
      seen_yields span left_pieces (left_back (opening c)) c r d refl after n.step (back_yields (opening c) law _ _ _)

  -- there are no more than one more than a text can have bytes
  pub counts_down : size (opening c) ≤ most_bytes → CountsDown (item_count left_pieces c) (left_pieces c)
  counts_down few = record { all = refl; few = back_few (opening c) law few (state c) }
