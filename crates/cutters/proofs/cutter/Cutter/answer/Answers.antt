use Rattle.cuts.specs.Runs.{rest, skip}
use Rattle.anystr.specs.Refusals.{coded}
use Rattle.cutters.specs.Calls.{span}
use Rattle.cutters.specs.Plays.{gave, skipped, rested, poured}
use Rattle.cutters.proofs.cutter.Cutter.answer.Goals as goal

pub returns-in-Next-clause-step : goal.returns-in-Next-clause-step
returns-in-Next-clause-step g c = rw c.in-Next.is (_, gave c.next.result, c.next.ensures.step)

pub returns-in-Skip-clause-step : goal.returns-in-Skip-clause-step
returns-in-Skip-clause-step g c =
    rw c.in-Skip.is (skip c.in-Skip.n (coded c.skip.result), skipped c.in-Skip.n c.skip.result, c.skip.ensures.step)

pub returns-in-Rest-clause-step : goal.returns-in-Rest-clause-step
returns-in-Rest-clause-step g c = rw c.in-Rest.is (rest (span c.rest.result), rested c.rest.result, c.rest.ensures.step)

pub returns-in-Pour-clause-step : goal.returns-in-Pour-clause-step
returns-in-Pour-clause-step g c =
    let p = c.pour_at.ensures.step in
    rw (c.in-Pour.is, p.others) (_, poured c.in-Pour.to c.in-Pour.tray c.pour_at.result p.tray', p.step)
