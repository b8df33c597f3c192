use Rattle.std.proofs.Common.{refl, arith}
use Rattle.anystr.specs.OfBytes.{boundary}
use Rattle.anystr.proofs.Singles.{within}
use Rattle.anystr.proofs.bytes.BytesAnyStr.check_bytes.Goals as goal
use Rattle.anystr.proofs.bytes.BytesAnyStr.check_bytes.Goals.{else-range-via-then-range+else-range-self}
use Rattle.anystr.proofs.bytes.BytesAnyStr.check_bytes.Goals.{else-range-via-else-range}

pub returns-then-range-self : goal.returns-then-range-self
returns-then-range-self c =
    let at = boundary c.args.self.now.bytes.now in
    record { order = omega arith; start = at _ (omega arith); end = at _ (omega arith) }

pub returns-else-range : goal.returns-else-range
returns-else-range c = (
  λ k.
      let o = k.order in
      let w = within c.args.self.now.bytes.now c.args.range.end k.end in
      elim c.else-range.branch [
        | else-range-via-then-range+else-range-self w' ↦ omega arith
        | else-range-via-else-range w' ↦ omega arith
      ],
  refl,
)
