-- What a tray of one of several types shows. Assumes nothing.
use Rattle.std.specs.Prelude.{ℕ}
use Rattle.trays.specs.Trays.{Contents}
use Rattle.trays.specs.Buffers.{buffer_contents, buffer_loan}
use Rattle.trays.specs.Labels.{label_contents}
use Rattle.trays.specs.declared.anytray.AnyTray.{AnyTray}
use Rattle.trays.specs.declared.anytray.AnyTray.TheVariants.{Lent, Own}

-- what it holds and has spare
abbrev pub any_contents : AnyTray → Contents
any_contents (Lent b) = buffer_contents b
any_contents (Own l) = label_contents l

-- the loan that it writes into; of a label it says nothing
abbrev pub any_loan : AnyTray → ℕ
any_loan (Lent b) = buffer_loan b
any_loan (Own l) = 0
