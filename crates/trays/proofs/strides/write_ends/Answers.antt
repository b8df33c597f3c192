use Rattle.trays.proofs.Written.{ends_written}
use Rattle.trays.proofs.strides.write_ends.Goals as goal

pub returns : goal.returns
returns g c =
    let r = c.requires in
    ends_written c.args.len c.args.n g.row.K c.args.batch.now c.args.bytes.now r.some r.few r.within r.room
