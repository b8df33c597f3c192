use Rattle.std.proofs.Common.{arith}
use Rattle.anystr.proofs.Walking.{count-within}
use Rattle.bytesinner.proofs.replaces.Replacement.copies.Goals as goal

pub overflow_add-gaps : goal.overflow_add-gaps
overflow_add-gaps g c =
    let text = c.args.self.now.text in
    omega (
      arith,
      c.element_count.ensures,
      count-within (g.S.AnyStr.elements text) (g.S.AnyStr.filled text),
      g.S.AnyStr.few text,
    )
