-- The byte with which a line end ends.
use Rattle.std.proofs.Common.{◌≡◌, ℕ, ◌-◌, true, IsTrue, List, [], ◌∷◌, ap, ◌∙◌, arith}
use Rattle.std.specs.Prelude.{slice_index}
use Rattle.searchers.specs.bytesets.Sets.{among}
use Rattle.searchers.specs.lineends.Lines.{LineEnd, pair, lone_cr, lone_lf, line_end, line_end-is}

last : (bs : List ℕ) (a e : ℕ) → LineEnd bs a e → among (13 ∷ 10 ∷ []) (slice_index bs (e - 1)) ≡ true
last bs a e (pair x y z) = ap (among (13 ∷ 10 ∷ [])) (ap (slice_index bs) (omega arith) ∙ y)
last bs a e (lone_cr x y z) = ap (among (13 ∷ 10 ∷ [])) (ap (slice_index bs) (omega arith) ∙ x)
last bs a e (lone_lf x y z) = ap (among (13 ∷ 10 ∷ [])) (ap (slice_index bs) (omega arith) ∙ x)

-- it is a carriage return or a line feed
pub last_byte : (bs : List ℕ) (a e : ℕ) → IsTrue (line_end bs a e)
    → among (13 ∷ 10 ∷ []) (slice_index bs (e - 1)) ≡ true
last_byte bs a e m = last bs a e (line_end-is bs a e m)
