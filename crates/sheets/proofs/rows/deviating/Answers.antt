use Rattle.std.proofs.Common.{ap, refl, map, ◌∙◌}
use Rattle.std.proofs.lemmas.Bool.{ne_eqb}
use Rattle.anystr.specs.Texts.{bytes_of}
use Rattle.sheets.specs.Rows.{seen}
use Rattle.sheets.proofs.Surveyed.{cuttable-at, put-down, passed-over}
use Rattle.sheets.proofs.rows.deviating.Goals as goal
use Rattle.sheets.proofs.rows.deviating.Goals.{then-fields-expected+in_ok-push, else-fields-expected}

pub fields-fields-requires : goal.fields-fields-requires
fields-fields-requires g c = cuttable-at _ c.args.rows.now _ _ c.loop-index-test.true c.requires

pub loop-index-preserved : goal.loop-index-preserved
loop-index-preserved g c =
    let sep = bytes_of g.S.AnyStr c.args.sep.now in
    let bytes = bytes_of g.S.AnyStr c.args.sheet.now in
    let k = c.loop-index.index in
    let lt = c.loop-index-test.true in
    let now = c.if-fields-expected.deviants.items in
    let old = c.loop-index.deviants.items in
    elim c.if-fields-expected.branch [
      | then-fields-expected+in_ok-push w ↦
          let added = ap (λ v. v.items) w.deviants-is ∙ w.in_ok-push.ensures.items in
          put-down sep bytes c.args.expected c.args.rows.now k _ lt c.fields-fields.result c.fields-fields.ensures old
          c.loop-index.invariant now _ added refl (ne_eqb _ _ w.if-fields-expected.true)
      | else-fields-expected w ↦
          ap (λ v. map seen v.items) w.deviants-is
          ∙ passed-over sep bytes c.args.expected c.args.rows.now k _ lt c.fields-fields.result
          c.fields-fields.ensures old c.loop-index.invariant w.if-fields-expected.false
    ]
