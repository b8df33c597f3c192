-- The marks of a needle: its occurrences, overlapping ones too. Assumes nothing.
use Rattle.std.specs.Prelude.{◌≡◌, ℕ, ◌+◌, ◌<◌, ◌≤◌, Bool, true, false, ◌&&◌, IsTrue, List, [], ◌∷◌, length, take, drop}
use Rattle.std.specs.Prelude.{◌==◌, nat_lt, refl}
use Rattle.std.proofs.Common.{arith, eqb-true, ltb-true}
use Rattle.std.proofs.lemmas.Bool.{and_parts, false≢true}
use Rattle.anystr.specs.Elements.{Occurs}
use Rattle.anystr.specs.OfBytes.{occurs-within}
use Rattle.searchers.specs.Marks.{Marks, Lawful, one_length-lawful}

-- the bytes begin with the needle
abbrev pub begins_with : List ℕ → List ℕ → Bool
begins_with [] bs = true
begins_with (x ∷ n) [] = false
begins_with (x ∷ n) (b ∷ bs) = b == x && begins_with n bs

-- the occurrences of a nonempty needle
abbrev pub occurrence : List ℕ → List ℕ → Marks
occurrence n bs a e = nat_lt 0 (length n) && (e == a + length n && begins_with n (drop a bs))

-- an occurrence, by its parts
pub record Occurrence (n bs : List ℕ) (a e : ℕ) : Type 0 where
  pub nonempty : 0 < length n
  pub end : e ≡ a + length n
  pub begins : IsTrue (begins_with n (drop a bs))
  pub occurs : Occurs bs n a

-- bytes that begin with the needle begin with its bytes
pub taken : (n bs : List ℕ) → IsTrue (begins_with n bs) → take (length n) bs ≡ n
taken [] bs h = refl
taken (x ∷ n) [] h = absurd (false≢true h)
taken (x ∷ n) (b ∷ bs) h =
    let p = and_parts _ _ h in
    let e = eqb-true b x p.0 in
    let r = taken n bs p.1 in
    λ i. e i ∷ r i

-- what a mark of a needle is
pub occurrence-is : (n bs : List ℕ) (a e : ℕ) → IsTrue (occurrence n bs a e) → Occurrence n bs a e
occurrence-is n bs a e m =
    let p = and_parts _ _ m in
    let q = and_parts _ _ p.1 in
    record { nonempty = ltb-true _ _ p.0; end = eqb-true _ _ q.0; begins = q.1; occurs = taken n (drop a bs) q.1 }

-- it is not empty and lies within the bytes
pub fits : (n bs : List ℕ) (a e : ℕ) → IsTrue (occurrence n bs a e)
    → (0 < length n) × (e ≡ a + length n) × (e ≤ length bs)
fits n bs a e m =
    let o = occurrence-is n bs a e m in
    let w = occurs-within bs n a o.nonempty o.occurs in
    (o.nonempty, o.end, omega arith)

-- the marks of a needle keep what marks keep
pub occurrence-lawful : (n bs : List ℕ) → Lawful (occurrence n bs) (length bs)
occurrence-lawful n bs = one_length-lawful (occurrence n bs) (length bs) (length n) (fits n bs)
