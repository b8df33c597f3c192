use Rattle.std.proofs.Common.{ap, ◌∙◌}
use Rattle.anystr.specs.Texts.{bytes_of}
use Rattle.anystr.proofs.Parts.{concat-part}
use Rattle.sheets.specs.Rows.{field_count}
use Rattle.sheets.proofs.Surveyed.{needed-split}
use Rattle.sheets.proofs.rows.fields.Goals as goal

pub returns : goal.returns
returns g c =
    let row = concat-part _ _ _ _ (c.get_bytes-row.ensures.given c.requires) in
    let sep = bytes_of g.S.AnyStr c.args.sep.now in
    let counted = needed-split _ sep _ _ _ c.split_str.ensures.list in
    c.needed.ensures ∙ (counted ∙ ap (field_count sep) row)
