-- How many pieces there can be, and how many bytes a pour can take.
use Rattle.std.proofs.Common.{◌≡◌, ℕ, suc, ◌+◌, ◌-◌, ◌*◌, ◌≤◌, Bool, true, false, cond, List, [], ◌∷◌, ◌++◌}
use Rattle.std.proofs.Common.{length, take, drop, sym, refl, ap, ◌∙◌, ⊎_elim, suc-mul, zero-mul, arith, length-append}
use Rattle.std.proofs.Common.{length-drop, length-take}
use Rattle.std.proofs.lemmas.Bool.{cases_lt}
use Rattle.std.proofs.lemmas.List.Sums.{sum_by-cons}
use Rattle.anystr.specs.Limits.{most_bytes}
use Rattle.searchers.specs.Marks.{Span, Lawful, AllOfLength}
use Rattle.cuts.specs.Cuts.{Opening, State, size, cut_from, between, pieces_left, poured, cut_bytes}
use Rattle.cuts.proofs.Found.{marks_from_past}
use Rattle.cuts.proofs.Left.{first}
use Rattle.cuts.proofs.Reach.{length-between}

module _ (on : Opening) (law : Lawful on.marks (size on)) where
  -- each cut takes a byte at least
  pub cuts_within : (ms : List Span) (made place : ℕ) → place ≤ size on → cut_from on made place ≡ ms
      → place + length ms ≤ size on
  cuts_within [] made place within e = omega arith
  cuts_within (m ∷ ms) made place within e =
      let f = first on law made place m ms e in
      omega (arith, cuts_within ms (suc made) m.1 f.within f.others, f.from, f.long)

  -- the pieces left are at most one more than the bytes
  pub pieces_few : size on ≤ most_bytes → (s : State) → length (pieces_left on s) ≤ suc most_bytes
  pieces_few few s = by s.spent
    where
      unspent : length (between s.place (size on) (cut_from on s.made s.place)) ≤ suc most_bytes
      unspent = let ms = cut_from on s.made s.place in ⊎_elim
          (λ past.
          omega (
            arith,
            length-between s.place (size on) ms,
            ap length (marks_from_past on.marks on.bound s.made s.place 0 (size on) (omega arith)),
          ))
          (λ within. omega (arith, length-between s.place (size on) ms, cuts_within ms s.made s.place within refl))
          (cases_lt (size on) s.place)

      by : (b : Bool)
          → length (cond b [] (between s.place (size on) (cond b [] (cut_from on s.made s.place)))) ≤ suc most_bytes
      by true = omega arith
      by false = unspent

  -- a cutter that is not spent has one piece more than it has marks to cut
  pub length-pieces_left : (s : State) → s.spent ≡ false
      → length (pieces_left on s) ≡ suc (length (cut_from on s.made s.place))
  length-pieces_left s unspent =
      let ms = cut_from on s.made s.place in
      ap (λ (b : Bool). length (cond b [] (between s.place (size on) (cond b [] ms)))) unspent
      ∙ length-between s.place (size on) ms

  -- a pour takes the bytes from the place on, but for those of the cuts, and a copy of `to` for each cut
  pub length-poured : (to : List ℕ) (ms : List Span) (made place : ℕ) → place ≤ size on → cut_from on made place ≡ ms
      → length (poured on.bytes to place ms) + cut_bytes ms ≡ (size on - place) + length ms * length to
  length-poured to [] made place within e = omega (arith, length-drop place on.bytes, zero-mul (length to))
  length-poured to (m ∷ ms) made place within e =
      let f = first on law made place m ms e in
      let front = take (m.0 - place) (drop place on.bytes) in
      let more = poured on.bytes to m.1 ms in
      let rest = length-poured to ms (suc made) m.1 f.within f.others in
      let times = suc-mul (length ms) (length to) in
      omega (
        arith,
        length-append front (to ++ more),
        length-append to more,
        length-take (m.0 - place) (drop place on.bytes),
        length-drop place on.bytes,
        sum_by-cons (λ (c : Span). c.1 - c.0) m ms,
        f.from,
        f.long,
        f.within,
      )

  -- so it takes those bytes and copies at most
  pub poured_within : (to : List ℕ) (ms : List Span) (made place : ℕ) → place ≤ size on → cut_from on made place ≡ ms
      → length (poured on.bytes to place ms) ≤ (size on - place) + length ms * length to
  poured_within to ms made place within e = omega (arith, length-poured to ms made place within e)

  -- cuts at marks of one length take so many bytes each
  pub cut_bytes-even : (len : ℕ) → AllOfLength len on.marks → (ms : List Span) (made place : ℕ)
      → cut_from on made place ≡ ms → cut_bytes ms ≡ length ms * len
  cut_bytes-even len all [] made place e = sym (zero-mul len)
  cut_bytes-even len all (m ∷ ms) made place e =
      let f = first on law made place m ms e in
      omega (
        arith,
        cut_bytes-even len all ms (suc made) m.1 f.others,
        all m.0 m.1 f.is,
        sum_by-cons (λ (c : Span). c.1 - c.0) m ms,
        suc-mul (length ms) len,
      )
