use Rattle.std.proofs.Common.{◌≡◌, ap, ◌∙◌}
use Rattle.anystr.specs.Bytes.{byte_list}
use Rattle.anystr.specs.OfBytes.{singles}
use Rattle.anystr.proofs.Mapped.{made}
use Rattle.anystr.proofs.bytes.Bytes.new.Goals as goal

pub returns-clause-given : goal.returns-clause-given
returns-clause-given c h =
    ap (λ t. singles (byte_list t)) c.unwrap_or.ensures
    ∙ made (λ t. singles (byte_list t) ≡ singles c.args.bytes.now) _ _ c.try_from.result _ c.try_from.ensures h
