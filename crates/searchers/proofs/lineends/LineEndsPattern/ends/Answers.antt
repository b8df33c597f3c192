use Rattle.std.proofs.Common.{◌≡◌, ℕ, ◌+◌, ◌-◌, true, [], ◌∷◌, subst, arith}
use Rattle.std.specs.Prelude.{slice_index}
use Rattle.searchers.specs.bytesets.Sets.{among}
use Rattle.searchers.specs.lineends.Lines.{line_end-lawful}
use Rattle.searchers.proofs.lineends.LastBytes.{last_byte}
use Rattle.searchers.proofs.lineends.LineEndsPattern.ends.Goals as goal

pub returns : goal.returns
returns c b e ge le m =
    let bs = c.args.bytes.now in
    let k : ℕ = e - c.args.at - 1 in
    let within = (line_end-lawful bs).within b e m in
    let there : e - 1 ≡ c.args.at + k = omega arith in
    let byte = subst (λ i. among (13 ∷ 10 ∷ []) (slice_index bs i) ≡ true) there (last_byte bs b e m) in
    c.places_among.ensures k (omega arith) (omega arith) byte
