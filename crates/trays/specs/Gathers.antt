-- What a tray that gathers shows. Assumes nothing.
use Rattle.std.specs.Prelude.{ℕ, take}
use Rattle.trays.specs.Trays.{Contents, gained}
use Rattle.trays.specs.declared.container.AnyStrContainer
use Rattle.trays.specs.declared.gather.Gather.{Gather}

module _ {T : Type 0} {t : AnyStrContainer.Ghosts T} where
  -- what it holds and has spare: the tray below, with the bytes gathered behind those that it holds
  abbrev pub gathered_contents : Gather T t → Contents
  gathered_contents g = gained (t.contents g.tray.now) (take g.len g.batch)

  -- the loan that the tray below writes into
  abbrev pub gathered_loan : Gather T t → ℕ
  gathered_loan g = t.loan g.tray.now

  -- the loan of the tray below, by its ghost name
  abbrev pub lent_tray : Gather T t → ℕ
  lent_tray g = g.tray.ghost_name
