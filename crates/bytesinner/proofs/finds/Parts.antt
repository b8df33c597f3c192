-- Parts of a text of bytes.
use Rattle.std.proofs.Common.{◌≡◌, ℕ, ◌+◌, ◌-◌, ◌≤◌, List, length, take, drop, ap, ◌∙◌, arith, length-drop, length-take}
use Rattle.std.proofs.lemmas.List.{drop-take, drop-drop}
use Rattle.std.specs.List.{concat}
use Rattle.anystr.specs.Elements.{Cut, Part}
use Rattle.anystr.specs.OfBytes.{singles, concat-singles, boundary}
use Rattle.anystr.proofs.Parts.{concat-part}
use Rattle.anystr.specs.Places.{part}

-- the length of a part
pub length_part : (bs : List ℕ) (a b : ℕ) → b ≤ length bs → length (part bs (a, b)) ≡ b - a
length_part bs a b within = omega (arith, length-take (b - a) (drop a bs), length-drop a bs)

-- a part without its first bytes
pub drop-part : (bs : List ℕ) (a b k : ℕ) → a + k ≤ b → drop k (part bs (a, b)) ≡ part bs (a + k, b)
drop-part bs a b k le =
    let e : b - a ≡ k + (b - (a + k)) = omega arith in
    ap (λ m. drop k (take m (drop a bs))) e
    ∙ (drop-take k (b - (a + k)) (drop a bs) ∙ ap (take (b - (a + k))) (drop-drop k a bs))

-- the bytes of a part that was cut out
pub got_part : (bs ps : List ℕ) (a b : ℕ) → a ≤ b → b ≤ length bs
    → (Cut (singles bs) a b → Part (singles bs) (singles ps) a b) → concat (singles ps) ≡ part bs (a, b)
got_part bs ps a b order within given =
    let cut : Cut (singles bs) a b =
    record { order = order; start = boundary bs a (omega arith); end = boundary bs b within } in
    concat-part (singles bs) (singles ps) a b (given cut) ∙ ap (λ l. part l (a, b)) (concat-singles bs)

-- and its length
pub got_length : (bs ps : List ℕ) (a b len : ℕ) → b ≤ length bs → ps ≡ part bs (a, b)
    → len ≡ length (concat (singles ps)) → len ≡ b - a
got_length bs ps a b len within is long = long ∙ (ap length (concat-singles ps ∙ is) ∙ length_part bs a b within)
