use Rattle.std.proofs.Common.{refl, ap, arith}
use Rattle.bytesinner.proofs.replaces.Filling.{fills}
use Rattle.bytesinner.proofs.replaces.Replacement.replace_empty.Goals as goal

pub returns-then-free-needed-clause-fills : goal.returns-then-free-needed-clause-fills
returns-then-free-needed-clause-fills g c =
    let n = c.measure-needed.ensures in
    fills _ _ _ _ _ refl (omega (arith, n)) (omega (arith, n, c.free.ensures), ap (λ k. (7, k)) n, refl)
