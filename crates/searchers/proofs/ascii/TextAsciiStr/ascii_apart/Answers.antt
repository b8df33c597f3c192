use Rattle.std.proofs.Common.{◌≡◌, suc, ◌+◌, ◌<◌, length, get_or, ap, subst, arith}
use Rattle.std.specs.Str as words
use Rattle.std.proofs.lemmas.Str.{IsCharBoundary-before_ascii, IsCharBoundary-after_ascii}
use Rattle.utf8.proofs.Rows.{utf8_had}
use Rattle.text.specs.OfText.{concat-letters, boundary}
use Rattle.searchers.proofs.ascii.TextAsciiStr.ascii_apart.Goals as goal

pub returns : goal.returns
returns c p within low =
    let bs = c.args.self.now.text.now in
    let u = utf8_had bs c.args.self.now.formed in
    let e = concat-letters bs u in
    let w : p < length bs = omega (arith, ap length e) in
    let s : get_or bs p 0 < 128 = omega (arith, ap (λ xs. get_or xs p 0) e) in
    let next : p + 1 ≡ suc p = omega arith in
    let after = subst (words.IsCharBoundary bs) next (IsCharBoundary-after_ascii bs p u w s) in
    (boundary bs p u (IsCharBoundary-before_ascii bs p w s), boundary bs (suc p) u after)
