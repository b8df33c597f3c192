use Rattle.std.proofs.Common.{ℕ, ◌-◌, [], ◌∷◌, length, arith}
use Rattle.std.specs.Prelude.{slice_index}
use Rattle.std.proofs.lemmas.Nat.Bits.{bit_at_and, bit_at_ones}
use Rattle.searchers.specs.substring.Occurrences.{fits}
use Rattle.searchers.specs.substring.Substrings.{needle_bytes}
use Rattle.searchers.proofs.substring.Needles.{byte_at, among_at, first_among}
use Rattle.searchers.proofs.substring.NeedlePattern.ends.Goals as goal

pub returns-in_default : goal.returns-in_default
returns-in_default c b e gt le m =
    let n = needle_bytes c.args.self.now in
    let bs = c.args.bytes.now in
    let fit = fits n bs b e m in
    let k : ℕ = e - c.args.at - 1 in
    let first = byte_at n bs b e 0 b fit.0 (omega arith) m in
    c.places_among.ensures k (omega arith) (omega arith) (among_at n bs _ b _ (omega arith) first (first_among n fit.0))

pub returns-in_default-checked_sub : goal.returns-in_default-checked_sub
returns-in_default-checked_sub c b e gt le m = bit_at_ones 64 (e - c.args.at - 1) (omega arith)

pub returns : goal.returns
returns c b e gt le m =
    let n = needle_bytes c.args.self.now in
    let bs = c.args.bytes.now in
    let fit = fits n bs b e m in
    let k : ℕ = e - c.args.at - 1 in
    let start = c.in-Some.ensures in
    let x = slice_index n 0 in
    let z = slice_index n (length n - 1) in
    let begins = byte_at n bs b e 0 b fit.0 (omega arith) m in
    let ends = byte_at n bs b e (length n - 1) (e - 1) (omega arith) (omega arith) m in
    let first = c.places_among-2.ensures k (omega arith) (omega arith)
    (among_at (x ∷ []) bs _ b x (omega arith) begins (first_among (x ∷ []) (omega arith))) in
    let last = c.places_among-3.ensures k (omega arith) (omega arith)
    (among_at (z ∷ []) bs _ (e - 1) z (omega arith) ends (first_among (z ∷ []) (omega arith))) in
    omega (arith, bit_at_and c.places_among-2.result c.places_among-3.result k)
