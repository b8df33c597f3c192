use Rattle.std.proofs.Common.{ℕ, ◌<◌, sym, arith}
use Rattle.std.proofs.lemmas.List.Elements.{All-from_get_or, All-same}
use Rattle.sheets.proofs.Apart.{apart-elements}
use Rattle.sheets.proofs.escapes.add_text.Goals as goal

pub add_elements-added-requires-clause-apart : goal.add_elements-added-requires-clause-apart
add_elements-added-requires-clause-apart g c =
    let IsByte : ℕ → Type 0 = λ b. b < 256 in
    let few = All-same IsByte _ _ (sym c.as_bytes-bytes.ensures)
    (All-from_get_or IsByte c.as_bytes-bytes.result.now 0 (λ i lt. omega (arith, c.type_inv.bytes i))) in
    apart-elements _ (g.S.AnyStr.filled c.args.text.now) c.ascii_apart.ensures few
