-- What a buffer shows. Assumes nothing.
use Rattle.std.specs.Prelude.{ℕ}
use Rattle.trays.specs.Trays.{Contents, holding}
use Rattle.trays.specs.declared.buffer.Buffer.{Buffer}

-- what it holds and has spare
abbrev pub buffer_contents : Buffer → Contents
buffer_contents b = holding b.len b.bytes.now

-- the loan of the caller's slice that it writes into, by its ghost name
abbrev pub buffer_loan : Buffer → ℕ
buffer_loan b = b.bytes.ghost_name
