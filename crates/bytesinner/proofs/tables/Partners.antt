-- A table that is written from the last position of two lists to the first.
use Rattle.std.proofs.Common.{◌≡◌, ℕ, zero, suc, ◌+◌, ◌-◌, ◌<◌, ◌≤◌, List, [], ◌∷◌, length, get_or, drop, set, reverse}
use Rattle.std.proofs.Common.{sym, refl, ap, ◌∙◌, arith}
use Rattle.std.proofs.lemmas.List.FromFn.{fill_by_all, length-map-range_with_len, get_or-map-range_with_len}
use Rattle.std.proofs.lemmas.Bool.Decides.{nat_tests}
use Rattle.std.proofs.lemmas.Grind.{get_or_default_zero}
use Rattle.std.proofs.lemmas.List.{drop_all, drop_more, get_or-set_same, get_or-set_other, get_or-reverse}
use Rattle.std.proofs.lemmas.List.{length-reverse}
use Rattle.std.proofs.lemmas.Slice.Zip.{length-zip, get_or-zip}
use Rattle.std.proofs.lemmas.Iterator.{YieldsList, zips, YieldsList-from_zip}
use Rattle.std.proofs.lemmas.Iterator.Adapters.{YieldsList-from_rev_slice}
use Rattle.std.specs.Iterator.Adapters.{zip_first, zip_second, rev_source, rev_steps}
use Rattle.std.specs.List.{concat, zip}
use Rattle.std.specs.Slice.Iter.{iter_rest, iter_steps_back}
use Rattle.std.proofs.lemmas.Bool.{cond-true, cond-false, eq-eqb, ne_eqb}
use Rattle.anystr.specs.OfBytes.{singles, concat-singles}
use Rattle.bytesinner.specs.tables.Tables.{byte_values}
use Rattle.bytesinner.specs.tables.Maketrans.{partner, table_from, FirstAt, Entry, MapsFirst}

-- a table has the partners of every byte in the lists from a position on
abbrev pub Partners : (table from to : List ℕ) → ℕ → Type 0
Partners table from to i = (b : ℕ) → b < byte_values → get_or table b 0 ≡ partner (drop i from) (drop i to) b

-- past the end of the lists each byte is its own
pub partners_none : (table from to : List ℕ) (i : ℕ) → length from ≤ i
    → ((b : ℕ) → b < byte_values → get_or table b 0 ≡ b) → Partners table from to i
partners_none table from to i past same b h =
    same b h ∙ sym (ap (λ xs. partner xs (drop i to) b) (drop_all i from past))

-- one position to the left
module _ (table from to : List ℕ) (i j : ℕ) (next : j ≡ i + 1) (long : length table ≡ byte_values)
    (in-from : i < length from) (in-to : i < length to) (so_far : Partners table from to j) where
  -- the lists from there on begin with that pair
  at : (b : ℕ)
      → partner (drop i from) (drop i to) b ≡ partner (get_or from i 0 ∷ drop j from) (get_or to i 0 ∷ drop j to) b
  at b =
      let f : drop i from ≡ get_or from i 0 ∷ drop j from = rw next (drop_more from i 0 in-from) in
      let t : drop i to ≡ get_or to i 0 ∷ drop j to = rw next (drop_more to i 0 in-to) in
      ap (λ xs. partner xs (drop i to) b) f ∙ ap (λ ys. partner (get_or from i 0 ∷ drop j from) ys b) t

  -- a table into which it is written
  partners_more : Partners (set table (get_or from i 0) (get_or to i 0)) from to i
  partners_more b h =
      grind (
        arith,
        nat_tests,
        at b,
        so_far b h,
        get_or-set_same table (get_or from i 0) (get_or to i 0) 0,
        get_or-set_other table (get_or from i 0) b (get_or to i 0) 0,
      )

-- a loop over the two lists from their ends comes by their pairs
pub pairs_yielded : (from to : List ℕ) {s : _}
    → iter_rest (rev_source (zip_first s)) ≡ concat (singles from)
    → iter_rest (rev_source (zip_second s)) ≡ concat (singles to)
    → YieldsList (zips (rev_steps iter_steps_back) (rev_steps iter_steps_back)) (λ p. (p.0.now, p.1.now)) s
    (zip (reverse from) (reverse to))
pairs_yielded from to f t =
    YieldsList-from_zip (YieldsList-from_rev_slice from (f ∙ concat-singles from))
    (YieldsList-from_rev_slice to (t ∙ concat-singles to))

-- the n-th pair of the two lists from their ends
pair : (from to : List ℕ) (n k v : ℕ) → length from ≡ length to → n < length (zip (reverse from) (reverse to))
    → (k, v) ≡ get_or (zip (reverse from) (reverse to)) n (k, v)
    → (n < length from) × (k ≡ get_or from (length from - 1 - n) 0) × (v ≡ get_or to (length to - 1 - n) 0)
pair from to n k v even more is =
    let some : n < length from = omega (arith, length-zip (reverse from) (reverse to), length-reverse from) in
    let f = length-reverse from in
    let t = length-reverse to in
    let both = is ∙ get_or-zip (reverse from) (reverse to) n (k, v) (omega arith) (omega arith) in
    let key = get_or-reverse from n k some ∙ get_or_default_zero from (length from - 1 - n) k (omega arith) in
    let value = get_or-reverse to n v (omega arith) ∙ get_or_default_zero to (length to - 1 - n) v (omega arith) in
    (some, ap (λ p. p.0) both ∙ key, ap (λ p. p.1) both ∙ value)

-- one pair more
pub partners_turn : (table from to : List ℕ) (n m k v : ℕ) → length from ≡ length to
    → n < length (zip (reverse from) (reverse to)) → (k, v) ≡ get_or (zip (reverse from) (reverse to)) n (k, v)
    → m ≡ n + 1 → length table ≡ byte_values
    → Partners table from to (length from - n) → Partners (set table k v) from to (length from - m)
partners_turn table from to n m k v even more is one long so_far =
    let p = pair from to n k v even more is in
    let i : length from - m ≡ length from - 1 - n = omega arith in
    rw (i, p.1, p.2, ← even)
    (partners_more table from to (length from - 1 - n) (length from - n) (omega arith) long (omega arith)
    (omega arith) so_far)

-- at the first position the table is made
pub partners_all : (table from to : List ℕ) (i : ℕ) → i ≡ 0 → length table ≡ byte_values → Partners table from to i
    → table ≡ table_from from to
partners_all table from to i z long all =
    fill_by_all (partner from to) table byte_values 0 long (λ b h. rw z at (all b h))

-- a byte goes to the byte across its first position
first-partner : (from to : List ℕ) (b i : ℕ) → length from ≡ length to → FirstAt from b i
    → partner from to b ≡ get_or to i 0
first-partner [] to b i e f = absurd (omega (arith, f.within))
first-partner (x ∷ from) [] b i e f = absurd (omega arith)
first-partner (x ∷ from) (y ∷ to) b zero e f = cond-true _ _ _ (eq-eqb x b f.here)
first-partner (x ∷ from) (y ∷ to) b (suc i) e f =
    let later : FirstAt from b i =
    record { within = omega (arith, f.within); here = f.here; first = λ j h. f.first (suc j) (omega arith) } in
    cond-false _ _ _ (ne_eqb x b (f.first 0 (omega arith))) ∙ first-partner from to b i (omega arith) later

-- a byte that is not in the list stays
no_partner : (from to : List ℕ) (b : ℕ) → ((i : ℕ) → i < length from → get_or from i 0 ≡ b → ⊥) → partner from to b ≡ b
no_partner [] to b none = refl
no_partner (x ∷ from) [] b none = refl
no_partner (x ∷ from) (y ∷ to) b none =
    cond-false _ _ _ (ne_eqb x b (none 0 (omega arith))) ∙ no_partner from to b (λ i h. none (suc i) (omega arith))

-- so the table has the entries of the law
entries : (from to : List ℕ) (b : ℕ) → length from ≡ length to → b < byte_values
    → Entry from to b (get_or (table_from from to) b 0)
entries from to b e h =
    let at = get_or-map-range_with_len (partner from to) 0 byte_values b b 0 h (omega arith) in
    (λ i f. at ∙ first-partner from to b i e f, λ none. at ∙ no_partner from to b none)

-- and keeps it
pub maps_first : (from to : List ℕ) → length from ≡ length to → MapsFirst from to (table_from from to)
maps_first from to e = (length-map-range_with_len (partner from to) 0 byte_values, λ b. entries from to b e)
