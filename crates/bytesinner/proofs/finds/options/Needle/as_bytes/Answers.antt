use Rattle.std.proofs.Common.{sym, ap}
use Rattle.bytesinner.specs.finds.Asked.{needle_bytes}
use Rattle.bytesinner.proofs.finds.options.Needle.as_bytes.Goals as goal

pub returns-in-Byte : goal.returns-in-Byte
returns-in-Byte c = sym (ap needle_bytes c.in-Byte.is)
