use Rattle.std.proofs.Common.{refl, rules}
use Rattle.std.proofs.lemmas.Bool.{both_ways}
use Rattle.searchers.proofs.substring.Needles.{stood, stood_not}
use Rattle.searchers.proofs.substring.NeedlePattern.mark_from.Goals as goal

pub returns-then-stands : goal.returns-then-stands
returns-then-stands c =
    stood c.args.self.now.bytes.now c.args.bytes.now c.args.start _ (search rules) refl
    (c.stands.ensures.0 c.if-stands.true)

pub returns-else-stands : goal.returns-else-stands
returns-else-stands c e =
    stood_not c.args.self.now.bytes.now c.args.bytes.now c.args.start e
    (λ o. both_ways _ c.if-stands.false (c.stands.ensures.1 o))
