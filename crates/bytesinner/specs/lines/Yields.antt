-- What the lines of a text are, as an iterator has them. Assumes nothing.
use Rattle.std.specs.Prelude.{◌≡◌, ◌≤◌, suc, Option}
use Rattle.std.specs.Iterator.{YieldsFirstBy, item_count}
use Rattle.std.proofs.Common.{refl}
use Rattle.anystr.specs.Limits.{most_bytes}
use Rattle.anystr.specs.declared.anystr.AnyStr
use Rattle.searchers.specs.Marks.{Lawful}
use Rattle.searchers.specs.declared.searcher.Searcher
use Rattle.cuts.specs.Cuts.{size, pieces_left}
use Rattle.cuts.proofs.Sizes.{pieces_few}
use Rattle.cuts.proofs.Yielding.{seen_yields}
use Rattle.cutters.specs.Calls.{span}
use Rattle.cutters.specs.pieces.Sources.{CountsDown}
use Rattle.cutters.specs.pieces.Yields.{same_opening}
use Rattle.cutters.specs.declared.piece.Piece.{Piece}
use Rattle.bytesinner.specs.lines.Lines.{lines_left}
use Rattle.bytesinner.specs.lines.Few.{lines_from-few}
use Rattle.bytesinner.specs.lines.Step.{line_yields}
use Rattle.bytesinner.specs.lines.Reader.{opening, state, left_lines, LineStep}
use Rattle.bytesinner.specs.declared.lines.reader.Lines.{Lines}

module _ {S F C : Type 0} {s : AnyStr.Ghosts S C} {f : Searcher.Ghosts F S C} (l : Lines S F C s f)
    (law : Lawful (opening l).marks (size (opening l))) where
  -- a next gives the first of the lines that are left
  pub next-yields : (r : Option Piece) (m : Lines S F C s f) → LineStep l r m → YieldsFirstBy span left_lines l r m
  next-yields r m n =
      let now = lines_left (opening l) l.keepends in
      let same = same_opening l.cutter m.cutter n.same in
      let after : left_lines m ≡ now (state m) = λ i. lines_left (same i) (n.same_ends i) (state m) in
      seen_yields span left_lines now l r m refl after n.step (line_yields (opening l) law l.keepends _ _ _)

  -- there are no more than one more than a text can have bytes
  pub counts_down : size (opening l) ≤ most_bytes → CountsDown (item_count left_lines l) (left_lines l)
  counts_down few = record {
    all = refl;
    few = lines_from-few l.keepends (size (opening l)) (suc most_bytes) (pieces_left (opening l) (state l))
        (pieces_few (opening l) law few (state l));
  }
