-- The lines of a text lie on boundaries where bytes below 128 stand apart.
use Rattle.std.proofs.Common.{ℕ, Bool, true, false, List, [], length, refl, arith}
use Rattle.std.specs.List.{concat}
use Rattle.anystr.specs.Elements.{Boundary, Cut}
use Rattle.searchers.specs.Ascii.{AsciiApart}
use Rattle.searchers.specs.Marks.{Span}
use Rattle.searchers.specs.lineends.Lines.{line_end-lawful}
use Rattle.searchers.specs.lineends.OnText.{line-ends_on}
use Rattle.anystr.proofs.Boundaries.{end_on}
use Rattle.bytesinner.specs.Written.{Cuttable}
use Rattle.bytesinner.specs.lines.Lines.{lines_of, Reads, ended, line, last}
use Rattle.bytesinner.proofs.Written.{cuttable-nil, cuttable-cons}
use Rattle.bytesinner.proofs.lines.Read.{is-mark, lines-law}

module _ (es : List (List ℕ)) (apart : AsciiApart es) where
  -- lines that are read from a boundary on, without and with their ends
  read-cut : {p : ℕ} {ls ks : List Span} → Boundary es p → Reads (concat es) p ls ks → Cuttable es ls × Cuttable es ks
  read-cut at (ended is) = (cuttable-nil es, cuttable-nil es)
  read-cut at (line {a = a} {e = e} from clear end more) =
      let mark = is-mark (concat es) a e end in
      let on = line-ends_on es apart a e mark in
      let long = (line_end-lawful (concat es)).nonempty a e mark in
      let rest = read-cut on.1 more in (
        cuttable-cons es _ _ (record { order = from; start = at; end = on.0 }) rest.0,
        cuttable-cons es _ _ (record { order = omega arith; start = at; end = on.1 }) rest.1,
      )
  read-cut {p} at (last lt clear) =
      let all : Cut es p (length (concat es)) = record { order = omega arith; start = at; end = end_on es } in
      let one = cuttable-cons es (p, length (concat es)) [] all (cuttable-nil es) in (one, one)

  pub lines-cut : (keepends : Bool) → Cuttable es (lines_of (concat es) keepends)
  lines-cut true = (read-cut (0, refl) (lines-law (concat es)).reads).1
  lines-cut false = (read-cut (0, refl) (lines-law (concat es)).reads).0
