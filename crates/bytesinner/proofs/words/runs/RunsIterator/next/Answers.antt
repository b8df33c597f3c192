use Rattle.std.proofs.Common.{sym, refl, ap, arith}
use Rattle.bytesinner.specs.words.Words.{first_run}
use Rattle.bytesinner.specs.words.Runs.{bytes}
use Rattle.bytesinner.proofs.words.Scan.{scanned, none_left, gives_run}
use Rattle.bytesinner.proofs.words.runs.RunsIterator.next.Goals as goal

pub returns-then-start-end-clause-steps : goal.returns-then-start-end-clause-steps
returns-then-start-end-clause-steps g c =
    let rs = c.args.self.now in
    let over = c.spaces_len.ensures.value in
    let through = c.word_end-end.ensures.value in
    let s = scanned _ _ c.as_bytes-bytes.ensures rs.looked c.in_ok-rest.ensures.lookup.0.2 over through in
    let none = none_left (bytes g.S.AnyStr rs) rs.place _ _ s c.if-start-end.true in
    record { step = ap (first_run rs.place) (sym none); same = refl }

pub returns : goal.returns
returns g c =
    let rs = c.args.self.now in
    let over = c.spaces_len.ensures.value in
    let through = c.word_end-end.ensures.value in
    let s = scanned _ _ c.as_bytes-bytes.ensures rs.looked c.in_ok-rest.ensures.lookup.0.2 over through in
    let some = c.if-start-end.false in
    let gives = gives_run g.S.AnyStr rs _ _ s (omega (arith, s.through)) in
    record { steps = (gives _ refl refl).0; goes = (gives _ refl refl).1 }
