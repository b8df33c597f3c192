use Rattle.std.proofs.Common.{arith, ap, take}
use Rattle.std.proofs.Common.{length}
use Rattle.std.proofs.lemmas.List.Folds.{length-prefix_len}
use Rattle.sheets.specs.Shown.{is_plain}
use Rattle.sheets.proofs.escapes.add_run.Goals as goal

pub returns-in_err-extend_from_slice-clause-room : goal.returns-in_err-extend_from_slice-clause-room
returns-in_err-extend_from_slice-clause-room c room =
    let bytes = c.args.bytes.now in
    let short = ap (λ n. length (take n bytes)) c.run_len-n.ensures in
    absurd (omega (arith, room, short, length-prefix_len is_plain bytes, c.in_err-extend_from_slice.ensures.full))
