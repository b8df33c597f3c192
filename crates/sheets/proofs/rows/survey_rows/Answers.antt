use Rattle.std.proofs.Common.{sym, ap, subst, ◌∙◌}
use Rattle.anystr.specs.Places.{stretches}
use Rattle.bytesinner.specs.Written.{Cuttable}
use Rattle.sheets.proofs.rows.survey_rows.Goals as goal

pub header_fields-requires : goal.header_fields-requires
header_fields-requires g c =
    let rows = c.in_ok-rows.ensures in
    let es = g.S.AnyStr.elements c.args.sheet.now in
    subst (Cuttable es) (sym (ap stretches c.as_slice-rows.ensures.value ∙ rows.value)) rows.cut

pub deviating-requires : goal.deviating-requires
deviating-requires g c =
    let rows = c.in_ok-rows.ensures in
    let es = g.S.AnyStr.elements c.args.sheet.now in
    subst (Cuttable es) (sym (ap stretches c.as_slice-rows.ensures.value ∙ rows.value)) rows.cut
