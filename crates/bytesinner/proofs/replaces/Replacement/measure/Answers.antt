use Rattle.std.proofs.Common.{arith}
use Rattle.bytesinner.proofs.replaces.Filling.{copies_spread-sum, copies_spread-fits}
use Rattle.bytesinner.proofs.replaces.Replacement.measure.Goals as goal

pub overflow_mul-result : goal.overflow_mul-result
overflow_mul-result g c =
    let r = c.args.self.now in
    let sum = copies_spread-fits g.S.AnyStr r _ _ _ c.requires c.bytes_len.ensures c.bytes_len-2.ensures in
    omega (arith, sum)

pub overflow_add-result : goal.overflow_add-result
overflow_add-result g c =
    let r = c.args.self.now in
    let sum = copies_spread-fits g.S.AnyStr r _ _ _ c.requires c.bytes_len.ensures c.bytes_len-2.ensures in
    omega (arith, sum)

pub returns : goal.returns
returns g c =
    let r = c.args.self.now in
    copies_spread-sum g.S.AnyStr r _ _ _ c.requires c.bytes_len.ensures c.bytes_len-2.ensures
