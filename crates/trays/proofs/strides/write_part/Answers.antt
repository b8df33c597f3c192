use Rattle.std.proofs.Common.{arith}
use Rattle.trays.proofs.Written.{stride_written}
use Rattle.trays.proofs.strides.write_part.Goals as goal

pub returns-then-bytes-ge-STRIDE : goal.returns-then-bytes-ge-STRIDE
returns-then-bytes-ge-STRIDE c =
    stride_written c.args.len c.args.n 32 c.args.batch.now c.args.bytes.now (omega arith) (omega arith) (omega arith)
