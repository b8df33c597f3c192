use Rattle.std.proofs.Common.{◌≤◌, length}
use Rattle.anystr.specs.Limits.{most_bytes}
use Rattle.anystr.specs.Refusals.{PassesIf}
use Rattle.anystr.proofs.Mapped.{mapped}
use Rattle.anystr.proofs.bytes.Bytes.check.Goals as goal

pub returns : goal.returns
returns c =
    let told = c.try_from.ensures.0 in
    mapped (PassesIf (length c.args.bytes.now ≤ most_bytes) (6, 0)) _ _ _ c.try_from.result c.map.result
    c.map.ensures.cases told (λ t u p. p) (λ e p. p)
