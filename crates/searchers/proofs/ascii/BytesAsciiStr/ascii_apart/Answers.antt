use Rattle.std.proofs.Common.{suc, length, ap, arith}
use Rattle.anystr.specs.OfBytes.{concat-singles, boundary}
use Rattle.searchers.proofs.ascii.BytesAsciiStr.ascii_apart.Goals as goal

pub returns : goal.returns
returns c p within low =
    let bs = c.args.self.now.bytes.now in
    let l = ap length (concat-singles bs) in
    (boundary bs p (omega arith), boundary bs (suc p) (omega arith))
