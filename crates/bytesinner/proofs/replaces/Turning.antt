-- The pass that spreads copies, turn by turn.
use Rattle.std.proofs.Common.{◌≡◌, ℕ, suc, ◌+◌, ◌<◌, ◌≤◌, List, [], ◌++◌, length, get_or, drop, pos, sym, refl, ap, ◌∙◌}
use Rattle.std.proofs.Common.{append-nil, add-one, arith}
use Rattle.std.specs.List.{concat}
use Rattle.std.proofs.lemmas.List.{drop_more, drop_all}
use Rattle.trays.specs.Trays.{Contents, gained}
use Rattle.cutters.proofs.Pouring.{Pouring}
use Rattle.bytesinner.specs.replaces.Replaces.{spread_text}
use Rattle.bytesinner.proofs.replaces.Spreading.{spread_none, spread_text-more, spread_text-last}

-- nothing is poured yet
pub to-come : (tray : Contents) (rest all : List ℕ) → rest ≡ all → length all ≤ length tray.spare
    → Pouring tray rest (gained tray all)
to-come tray rest all same fits = rw same record { room = fits; whole = refl }

-- all is poured
pub all_poured : (tray full : Contents) → Pouring tray [] full → tray ≡ full
all_poured tray full p =
    let same : gained tray [] ≡ tray = λ i. record { held = append-nil tray.held i; spare = tray.spare } in
    sym same ∙ p.whole

-- what is left after n turns
abbrev pub left : List ℕ → List (List ℕ) → ℕ → ℕ → List ℕ
left to es count n = spread_text to (pos count) n (drop n es)

module _ (to : List ℕ) (es : List (List ℕ)) (count k : ℕ) where
  -- a copy, and the element behind it
  pub copy-ahead : k < count → k < length es → left to es count k ≡ to ++ (get_or es k [] ++ left to es count (k + 1))
  copy-ahead lt within =
      let rest = drop (k + 1) es in
      let more = spread_text-more to count (get_or es k []) rest k lt in
      let next = ap (λ n. to ++ (get_or es k [] ++ spread_text to (pos count) n rest)) (sym (add-one k)) in
      ap (spread_text to (pos count) k) (drop_more es k [] within) ∙ (more ∙ next)

  -- the copy at the end
  pub last-copy : k < count → count ≤ suc (length es) → length es ≤ k
      → left to es count k ≡ to ++ left to es count (k + 1)
  last-copy lt few past =
      let rest = drop_all (k + 1) es (omega arith) in
      let none = spread_none to count (drop (k + 1) es) (k + 1) (omega arith) ∙ ap concat rest in
      let alone = sym (append-nil to) ∙ ap (λ (b : List ℕ). to ++ b) (sym none) in
      ap (spread_text to (pos count) k) (drop_all k es past) ∙ (spread_text-last to count k lt ∙ alone)

  -- no copy
  pub no-copy : count ≤ k → left to es count k ≡ concat (drop k es) ++ []
  no-copy past = spread_none to count (drop k es) k past ∙ sym (append-nil _)
