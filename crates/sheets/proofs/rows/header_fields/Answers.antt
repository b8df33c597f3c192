use Rattle.std.proofs.Common.{◌∙◌, sym}
use Rattle.sheets.proofs.Surveyed.{cuttable-at, header-first}
use Rattle.sheets.proofs.rows.header_fields.Goals as goal

pub fields-requires : goal.fields-requires
fields-requires g c = cuttable-at _ c.args.rows.now 0 _ c.in-len1-up.len_at_least c.requires

pub returns-in-len1-up : goal.returns-in-len1-up
returns-in-len1-up g c = c.fields.ensures ∙ sym (header-first _ _ c.args.rows.now _ c.in-len1-up.len_at_least)
