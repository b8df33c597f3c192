use Rattle.std.proofs.Common.{ℕ, ◌<◌, List, [], ◌∷◌, suc, slice_index, sym, ◌∙◌, ⊎_elim, subst, eqb-true}
use Rattle.std.proofs.lemmas.Bool.{or_cases, false≢true}
use Rattle.std.specs.Bool.{IsTrue}
use Rattle.searchers.specs.bytesets.Sets.{among}
use Rattle.searchers.proofs.bytesets.asciiset.least_non_ascii.Goals as goal

-- one of some bytes below 128 is below 128
among_low : (bs : List ℕ) (b : ℕ) → ((i : ℕ) → slice_index bs i < 128) → IsTrue (among bs b) → b < 128
among_low [] b low is = absurd (false≢true is)
among_low (x ∷ xs) b low is =
    ⊎_elim
    (λ here. subst (λ n. n < 128) (eqb-true x b here) (low 0))
    (λ there. among_low xs b (λ i. low (suc i)) there)
    (or_cases _ _ is)

pub returns-then-is_ascii : goal.returns-then-is_ascii
returns-then-is_ascii c b has =
    among_low c.args.bytes.now b c.if-is_ascii.ensures.cases (sym (c.requires b) ∙ has)
