use Rattle.std.proofs.Common.{None, Some, arith}
use Rattle.searchers.specs.substring.Occurrences.{fits}
use Rattle.searchers.specs.substring.Substrings.{needle_bytes}
use Rattle.searchers.proofs.substring.Far.{found}
use Rattle.searchers.proofs.substring.NeedlePattern.skip.Goals as goal

pub returns-in-Some-find-clause-passed : goal.returns-in-Some-find-clause-passed
returns-in-Some-find-clause-passed c b e ge lt m =
    let n = needle_bytes c.args.self.now in
    let bs = c.args.bytes.now in
    let rest = c.in-Some.rest.now in
    let cut = c.in-Some.ensures.lookup.0.2 in
    let first = found n bs (fits n bs b e m).0 c.args.at rest cut (Some c.in-Some-find.start) c.in-Some-find.ensures in
    omega (arith, first.least b e ge m)

pub returns-in-None-clause-passed : goal.returns-in-None-clause-passed
returns-in-None-clause-passed c b e ge lt m =
    let n = needle_bytes c.args.self.now in
    let bs = c.args.bytes.now in
    let rest = c.in-Some.rest.now in
    let cut = c.in-Some.ensures.lookup.0.2 in
    found n bs (fits n bs b e m).0 c.args.at rest cut None c.in-None.ensures b e ge m
