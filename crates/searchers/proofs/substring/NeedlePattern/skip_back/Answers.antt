use Rattle.std.proofs.Common.{None, Some, arith}
use Rattle.searchers.specs.substring.Occurrences.{fits}
use Rattle.searchers.specs.substring.Substrings.{needle_bytes}
use Rattle.searchers.proofs.substring.Far.{found_back}
use Rattle.searchers.proofs.substring.NeedlePattern.skip_back.Goals as goal

pub returns-in-Some-rfind-clause-passed : goal.returns-in-Some-rfind-clause-passed
returns-in-Some-rfind-clause-passed c b e gt le m =
    let n = needle_bytes c.args.self.now in
    let bs = c.args.bytes.now in
    let front = c.in-Some.front.now in
    let cut = c.in-Some.ensures.lookup.0.2 in
    let last =
    found_back n bs (fits n bs b e m).0 c.args.before front cut (Some c.in-Some-rfind.start) c.in-Some-rfind.ensures in
    omega (arith, last.greatest b e le m)

pub returns-in-None-clause-passed : goal.returns-in-None-clause-passed
returns-in-None-clause-passed c b e gt le m =
    let n = needle_bytes c.args.self.now in
    let bs = c.args.bytes.now in
    let front = c.in-Some.front.now in
    let cut = c.in-Some.ensures.lookup.0.2 in
    found_back n bs (fits n bs b e m).0 c.args.before front cut None c.in-None.ensures b e le m
