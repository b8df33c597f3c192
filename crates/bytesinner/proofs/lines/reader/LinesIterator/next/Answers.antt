use Rattle.std.proofs.Common.{Some, rules}
use Rattle.cutters.specs.Calls.{span}
use Rattle.cutters.proofs.Yielding.{goes_on}
use Rattle.bytesinner.specs.lines.Reader.{left_lines, LineStep}
use Rattle.bytesinner.specs.lines.Yields.{next-yields}
use Rattle.bytesinner.proofs.lines.reader.LinesIterator.next.Goals as goal

pub returns-then-self : goal.returns-then-self
returns-then-self g c =
    let l = c.args.self.now in
    let law = g.met.F.Searcher.lawful l.cutter.searcher l.cutter.text in
    let line = Some (record { start = c.in_ok-piece.piece.start; end = c.rest.result.start }) in
    let step : LineStep l line (record { cutter = c.next.new.self; keepends = l.keepends }) = search rules in
    record { steps = step; goes = goes_on span left_lines l line _ (next-yields l law line _ step) }

pub returns-else-self : goal.returns-else-self
returns-else-self g c =
    let l = c.args.self.now in
    let law = g.met.F.Searcher.lawful l.cutter.searcher l.cutter.text in
    let line = Some (record { start = c.in_ok-piece.piece.start; end = c.in_ok-piece.piece.end }) in
    let step : LineStep l line (record { cutter = c.next.new.self; keepends = l.keepends }) = search rules in
    record { steps = step; goes = goes_on span left_lines l line _ (next-yields l law line _ step) }
