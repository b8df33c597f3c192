use Rattle.std.proofs.Common.{w64, SFits, rules}
use Rattle.std.proofs.lemmas.Int.{to_z-of_z}
use Rattle.bytesinner.proofs.splitting.split.Goals as goal

pub returns-in-Some-clause-list : goal.returns-in-Some-clause-list
returns-in-Some-clause-list g c =
    let n = c.args.args.maxsplit in
    let f : SFits w64 n = search rules in
    rw (c.in-Some.is, ← to_z-of_z w64 n f) c.split_str.ensures.list

pub returns-in-Some-clause-law : goal.returns-in-Some-clause-law
returns-in-Some-clause-law g c =
    let n = c.args.args.maxsplit in
    let f : SFits w64 n = search rules in
    let told = c.split_str.ensures in
    rw (c.in-Some.is, ← to_z-of_z w64 n f) (told.rule, told.restores, told.cut)
