-- How often a byte stands in what is kept of a text.
use Rattle.std.proofs.Common.{◌≡◌, ◌==◌, ℕ, Bool, cond, List, [], ◌∷◌, arith}
use Rattle.std.proofs.lemmas.Bool.Decides.{nat_tests}
use Rattle.std.proofs.lemmas.List.Sums.{sum_by-cons}
use Rattle.bytesinner.specs.tables.Translations.{kept_bytes, times}

-- a byte that goes stands there never, and any other as often as in the text
pub count_kept : (gone : ℕ → Bool) (b : ℕ) (xs : List ℕ) → times b (kept_bytes gone xs) ≡ cond (gone b) 0 (times b xs)
count_kept gone b [] = grind arith
count_kept gone b (x ∷ xs) =
    let more = sum_by-cons (λ y. cond (b == y) 1 0) x in
    grind (arith, nat_tests, more xs, more (kept_bytes gone xs), count_kept gone b xs)
