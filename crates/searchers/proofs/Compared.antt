-- How often a byte stands among 32, by the bits that tell where.
use Rattle.std.proofs.Common.{◌≡◌, ℕ, ◌+◌, ◌%◌, ◌^◌, ◌≤◌, List, cond, eqb, sym, count_by, take, drop, length, ◌++◌}
use Rattle.std.proofs.Common.{map, replicate, ap, ◌∙◌, arith, w8}
use Rattle.std.proofs.lemmas.List.{take-take, drop-take, take-append-drop}
use Rattle.std.proofs.lemmas.Simd.{length-chunk, bitmask_splat, ones-mask_l}
use Rattle.std.specs.Int.Count.{ones}
use Rattle.std.specs.Prelude.{◌==◌}
use Rattle.std.proofs.lemmas.List.Sums.{count_by-le-length, sum_by-append}
use Rattle.std.specs.Simd.Lanes.{zip2, mask_l, top, chunk}

module _ (bs : List ℕ) (at b : ℕ) (room : at + 32 ≤ length bs) where
  -- the bits, as the code computes them
  abbrev pub compared : ℕ
  compared = mask_l (map (top 7) (zip2 (λ x y. cond (eqb x y) 255 0) (chunk at 32 bs) (replicate 32 b))) % 2 ^ 64

  is : compared ≡ mask_l (map (λ x. eqb x b) (chunk at 32 bs))
  is = bitmask_splat w8 eqb (chunk at 32 bs) 32 b (length-chunk at 32 bs room) (omega arith)

  -- how many of the bits are set
  pub compared-ones : ones compared ≡ count_by (λ x. x == b) (take 32 (drop at bs))
  compared-ones = ap ones is ∙ ones-mask_l (λ x. eqb x b) (chunk at 32 bs)

  pub compared-few : ones compared ≤ 32
  compared-few =
      let few = count_by-le-length (λ x. x == b) (take 32 (drop at bs)) in
      omega (arith, compared-ones, few, length-chunk at 32 bs room)

-- the times in 32 bytes more
pub times_more : (bs : List ℕ) (b at n m : ℕ) → n ≡ count_by (λ x. x == b) (take at bs)
    → m ≡ count_by (λ x. x == b) (take 32 (drop at bs)) → n + m ≡ count_by (λ x. x == b) (take (at + 32) bs)
times_more bs b at n m p q =
    let front : take at (take (at + 32) bs) ≡ take at bs = take-take at (at + 32) bs (omega arith) in
    let back : drop at (take (at + 32) bs) ≡ take 32 (drop at bs) = drop-take at 32 bs in
    let whole : take (at + 32) bs ≡ take at bs ++ take 32 (drop at bs) =
    sym (take-append-drop at (take (at + 32) bs)) ∙ (λ i. front i ++ back i) in
    let counts = sum_by-append (λ x. cond (x == b) 1 0) (take at bs) (take 32 (drop at bs)) in
    let e = ap (count_by (λ x. x == b)) whole in
    omega arith
