-- What a write into a label leaves.
use Rattle.std.proofs.Common.{◌≡◌, ℕ, ◌+◌, ◌-◌, ◌≤◌, List, ◌++◌, length, take, drop, replicate, Ok, sym, ap, ◌∙◌, arith}
use Rattle.std.proofs.Common.{length-append, length-drop}
use Rattle.std.proofs.lemmas.List.{drop-replicate, length-replicate, length-take-le}
use Rattle.trays.specs.Trays.{Puts, gained}
use Rattle.trays.specs.Labels.{label_bytes, zeros_past, label_contents}

module _ (xs new ys : List ℕ) (len end : ℕ) (long : length xs ≡ label_bytes) (zeros : drop len xs ≡ zeros_past len)
    (within : len ≤ label_bytes) (put : Puts new len xs ys (Ok end)) where
  -- what is written ends within it
  fits : len + length new ≤ label_bytes
  fits = omega (arith, put.1, length-drop len xs)

  -- what is left of zeros is zeros
  fewer : drop (length new) (zeros_past len) ≡ zeros_past end
  fewer = drop-replicate (length new) (label_bytes - len) 0 ∙ ap (λ k. replicate k 0) (omega (arith, put.0))

  -- the bytes past it are still zero
  pub label_kept : (end ≤ label_bytes) × (drop end ys ≡ zeros_past end)
  label_kept = (omega (arith, fits, put.0), (λ i. (put.2 i).spare) ∙ (ap (drop (length new)) zeros ∙ fewer))

  -- it gained what is written
  pub label_filled : (length new ≤ length (zeros_past (length (take len xs))))
      × (label_contents (take end ys) ≡ gained (label_contents (take len xs)) new)
  label_filled =
      let had = take len xs in
      let before : length had ≡ len = length-take-le len xs (omega arith) in
      let held : take end ys ≡ had ++ new = λ i. (put.2 i).held in
      let after : length (take end ys) ≡ end = omega (arith, ap length held, length-append had new, put.0) in
      let left = ap (λ k. drop (length new) (zeros_past k)) (sym before) in
      let spare = ap zeros_past after ∙ (sym fewer ∙ left) in
      let all_zero = length-replicate {A = ℕ} (label_bytes - length had) 0 in
      (omega (arith, fits, all_zero), λ i. record { held = held i; spare = spare i })
