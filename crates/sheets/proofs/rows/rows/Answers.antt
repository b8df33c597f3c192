use Rattle.std.proofs.Common.{[], length, ap, arith}
use Rattle.sheets.proofs.Surveyed.{needed-places, all-cuttable}
use Rattle.sheets.proofs.rows.rows.Goals as goal

pub returns-clause-cut : goal.returns-clause-cut
returns-clause-cut g c =
    let entries = ap length c.as_mut_slice.ensures.value in
    let wanted = needed-places _ [] c.splitlines.new.places c.splitlines.result c.splitlines.ensures.value in
    all-cuttable _ _ c.as_mut_slice.result.now c.splitlines-2.new.places c.splitlines-2.result
    (omega (arith, entries, c.in_ok-rows.ensures.len, c.needed-n.ensures, wanted, c.in_ok-rows.rows.ok.0))
    c.splitlines-2.ensures.value c.splitlines-2.ensures.cut
