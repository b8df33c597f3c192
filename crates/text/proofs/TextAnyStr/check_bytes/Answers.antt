use Rattle.std.proofs.Common.{refl, rules, arith}
use Rattle.utf8.proofs.Rows.{utf8_had}
use Rattle.text.specs.OfText.{boundary}
use Rattle.text.proofs.Letters.{boundary_back}
use Rattle.text.proofs.TextAnyStr.check_bytes.Goals as goal
use Rattle.text.proofs.TextAnyStr.check_bytes.Goals.{else-range-via-else-range}

pub returns-then-is_char_boundary-2 : goal.returns-then-is_char_boundary-2
returns-then-is_char_boundary-2 c =
    let bs = c.args.self.now.text.now in
    let u = utf8_had bs c.args.self.now.formed in
    record {
      order = omega arith;
      start = boundary bs c.args.range.start u (search rules);
      end = boundary bs c.args.range.end u (search rules);
    }

pub returns-else-range : goal.returns-else-range
returns-else-range c =
    let bs = c.args.self.now.text.now in
    let u = utf8_had bs c.args.self.now.formed in (
      λ k.
          let o = k.order in
          let s = boundary_back bs c.args.range.start u k.start in
          let e = boundary_back bs c.args.range.end u k.end in
          elim c.else-range.branch [ else-range-via-else-range w ↦ omega arith | _ ↦ search rules ],
      refl,
    )
