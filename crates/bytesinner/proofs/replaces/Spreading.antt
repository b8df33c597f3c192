-- Copies spread among elements.
use Rattle.std.proofs.Common.{◌≡◌, ℕ, zero, suc, ◌+◌, ◌*◌, ◌<◌, ◌≤◌, min, Bool, true, false, cond, if◌then◌else◌, List}
use Rattle.std.proofs.Common.{[], ◌∷◌, ◌++◌, length, ℤ, pos, negsuc, sym, refl, ap, ◌∙◌, ⊎_elim, suc-mul, arith}
use Rattle.std.proofs.Common.{append-nil, append_assoc, length-append}
use Rattle.std.proofs.Math.Dec.{leb-suc-suc}
use Rattle.std.specs.List.{concat}
use Rattle.std.proofs.lemmas.Bool.{lt-ltb, le-ltb, cases_lt}
use Rattle.cuts.specs.Cuts.{fewer}
use Rattle.bytesinner.specs.replaces.Replaces.{spread_text, copy_count, with_copies}

nothing : (b : Bool) → ◌≡◌ {A = List ℕ} (cond b [] []) []
nothing true = refl
nothing false = refl

copy_count-fewer : (n : ℕ) (bound : ℤ) (j : ℕ) → j ≤ n → fewer j bound ≡ fewer j (pos (copy_count n bound))
copy_count-fewer n (pos b) j h = ⊎_elim
    (λ lt. lt-ltb j b lt ∙ sym (lt-ltb j (min b (suc n)) (omega arith)))
    (λ ge. le-ltb j b ge ∙ sym (le-ltb j (min b (suc n)) (omega arith)))
    (cases_lt j b)
copy_count-fewer n (negsuc b) j h = sym (lt-ltb j (suc n) (omega arith))

-- bounds that allow the same copies
same_spread : (to : List ℕ) (a b : ℤ) (es : List (List ℕ)) (made : ℕ)
    → ((j : ℕ) → j ≤ made + length es → fewer j a ≡ fewer j b) → spread_text to a made es ≡ spread_text to b made es
same_spread to a b [] made same = ap (λ t. cond t to []) (same made (omega arith))
same_spread to a b (e ∷ es) made same =
    let rest = same_spread to a b es (suc made) (λ j h. same j (omega arith)) in
    ap (λ t. cond t to [] ++ (e ++ spread_text to a (suc made) es)) (same made (omega arith))
    ∙ ap (λ r. cond (fewer made b) to [] ++ (e ++ r)) rest

-- a bound allows as many copies as there are
pub spread_text-copy_count : (to : List ℕ) (bound : ℤ) (es : List (List ℕ))
    → spread_text to bound 0 es ≡ spread_text to (pos (copy_count (length es) bound)) 0 es
spread_text-copy_count to bound es =
    let n = length es in
    same_spread to bound (pos (copy_count n bound)) es 0 (λ j h. copy_count-fewer n bound j (omega arith))

pub copy_count-few : (n : ℕ) (bound : ℤ) → copy_count n bound ≤ suc n
copy_count-few n (pos b) = omega arith
copy_count-few n (negsuc b) = omega arith

module _ (to : List ℕ) (count : ℕ) where
  -- no copy is left
  pub spread_none : (es : List (List ℕ)) (made : ℕ) → count ≤ made → spread_text to (pos count) made es ≡ concat es
  spread_none [] made past = ap (λ t. cond t to []) (le-ltb made count past)
  spread_none (e ∷ es) made past =
      ap (λ t. cond t to [] ++ (e ++ spread_text to (pos count) (suc made) es)) (le-ltb made count past)
      ∙ ap (λ r. e ++ r) (spread_none es (suc made) (omega arith))

  -- one copy more, and the element behind it
  pub spread_text-more : (e : List ℕ) (es : List (List ℕ)) (made : ℕ) → made < count
      → spread_text to (pos count) made (e ∷ es) ≡ to ++ (e ++ spread_text to (pos count) (suc made) es)
  spread_text-more e es made lt =
      ap (λ t. cond t to [] ++ (e ++ spread_text to (pos count) (suc made) es)) (lt-ltb made count lt)

  -- the copy at the end
  pub spread_text-last : (made : ℕ) → made < count → spread_text to (pos count) made [] ≡ to
  spread_text-last made lt = ap (λ t. cond t to []) (lt-ltb made count lt)

module _ (to : List ℕ) where
  -- no copy, the copy at the end, one copy more
  with_copies-none : (es : List (List ℕ)) → with_copies to 0 es ≡ concat es
  with_copies-none es =
      ap (λ b. concat es ++ (if b then to else [])) (le-ltb (length es) 0 (omega arith)) ∙ append-nil (concat es)

  with_copies-last : (k : ℕ) → with_copies to (suc k) [] ≡ to
  with_copies-last k = ap (λ b. if b then to else []) (lt-ltb 0 (suc k) (omega arith))

  with_copies-more : (k : ℕ) (e : List ℕ) (es : List (List ℕ))
      → with_copies to (suc k) (e ∷ es) ≡ to ++ (e ++ with_copies to k es)
  with_copies-more k e es = simp (append_assoc, leb-suc-suc)

  -- the copies that are still to be made stand before the next elements, and a last one at the end
  spread_text-placed : (count k : ℕ) (es : List (List ℕ)) (made : ℕ) → count ≡ made + k
      → spread_text to (pos count) made es ≡ with_copies to k es
  spread_text-placed count zero es made all = spread_none to count es made (omega arith) ∙ sym (with_copies-none es)
  spread_text-placed count (suc k) [] made all = spread_text-last to count made (omega arith) ∙ sym (with_copies-last k)
  spread_text-placed count (suc k) (e ∷ es) made all =
      let rest = spread_text-placed count k es (suc made) (omega arith) in
      spread_text-more to count e es made (omega arith)
      ∙ (ap (λ r. to ++ (e ++ r)) rest ∙ sym (with_copies-more k e es))

  -- each copy stands in its place
  pub spread_text-with_copies : (bound : ℤ) (es : List (List ℕ))
      → spread_text to bound 0 es ≡ with_copies to (copy_count (length es) bound) es
  spread_text-with_copies bound es =
      let n = copy_count (length es) bound in
      spread_text-copy_count to bound es ∙ spread_text-placed n n es 0 (omega arith)

  -- what the copies add
  pub length-with_copies : (k : ℕ) (es : List (List ℕ)) → k ≤ suc (length es)
      → length (with_copies to k es) ≡ length (concat es) + k * length to
  length-with_copies zero es few = omega (arith, ap length (with_copies-none es))
  length-with_copies (suc zero) [] few = omega (arith, ap length (with_copies-last 0))
  length-with_copies (suc (suc k)) [] few = absurd (omega arith)
  length-with_copies (suc k) (e ∷ es) few =
      let more = with_copies to k es in
      let rest = length-with_copies k es (omega arith) in
      let long = ap length (with_copies-more k e es) ∙ length-append to (e ++ more) in
      omega (arith, long, length-append e more, length-append e (concat es), suc-mul k (length to))

-- an empty copy adds nothing
pub spread_text-empty : (bound : ℤ) (es : List (List ℕ)) (made : ℕ) → spread_text [] bound made es ≡ concat es
spread_text-empty bound [] made = nothing (fewer made bound)
spread_text-empty bound (e ∷ es) made =
    ap (λ t. t ++ (e ++ spread_text [] bound (suc made) es)) (nothing (fewer made bound))
    ∙ ap (λ r. e ++ r) (spread_text-empty bound es (suc made))
