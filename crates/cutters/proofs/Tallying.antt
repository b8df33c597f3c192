-- The marks that are still to be cut, counted.
use Rattle.std.proofs.Common.{◌≡◌, ℕ, suc, ◌+◌, ◌-◌, ◌*◌, ◌≤◌, Bool, false, cond, List, [], ◌∷◌, length, sym, refl, ap}
use Rattle.std.proofs.Common.{◌∙◌, add-one, mul-zero, mul-le-mul, arith}
use Rattle.std.specs.List.{concat}
use Rattle.std.proofs.lemmas.List.Sums.{sum_by-cons}
use Rattle.anystr.specs.Limits.{most_bytes}
use Rattle.anystr.specs.declared.anystr.AnyStr
use Rattle.anystr.proofs.Boundaries.{boundary_from, offset-within}
use Rattle.searchers.specs.Marks.{Span, Lawful, Least}
use Rattle.searchers.specs.declared.searcher.Searcher
use Rattle.cuts.specs.Cuts.{Opening, size, cut_from, cut_bytes, poured}
use Rattle.cuts.proofs.Found.{cut_found}
use Rattle.cuts.proofs.Greedy.{Few}
use Rattle.cuts.proofs.Sizes.{cuts_within, length-poured}
use Rattle.cutters.specs.Calls.{opening, poured_by}
use Rattle.cutters.specs.Tallies.{marks_ahead, IsTallyOf}
use Rattle.cutters.specs.declared.cutter.Cutter.{Cutter}
use Rattle.cutters.specs.declared.cutter.tally.Tally.{Tally}

-- a mark that is cut is one of those that were still to be cut, and takes its bytes
pub record OneCut (on : Opening) (made place a e : ℕ) : Type 0 where
  pub marks : length (cut_from on made place) ≡ suc (length (cut_from on (made + 1) e))
  pub bytes : cut_bytes (cut_from on made place) ≡ (e - a) + cut_bytes (cut_from on (made + 1) e)

pub one_cut : (on : Opening) → Lawful on.marks (size on) → (made place a e : ℕ) → Few on.bound made
    → Least on.marks place a e → OneCut on made place a e
one_cut on law made place a e few least =
    let cut : cut_from on made place ≡ (a, e) ∷ cut_from on (made + 1) e =
    cut_found on law made place a e few least ∙ ap (λ (n : ℕ). (a, e) ∷ cut_from on n e) (sym (add-one made)) in
    record {
      marks = ap length cut;
      bytes = ap cut_bytes cut ∙ sum_by-cons (λ (m : Span). m.1 - m.0) (a, e) (cut_from on (made + 1) e);
    }

-- where none is still to be cut, the tally is whole
pub all_cut : {tally : Tally} {all ms : List Span} → tally.marks + length ms ≡ length all
    → tally.bytes + cut_bytes ms ≡ cut_bytes all → ms ≡ [] → IsTallyOf all tally
all_cut marks bytes none =
    record { marks = omega (arith, marks, ap length none); bytes = omega (arith, bytes, ap cut_bytes none) }

-- the rest, with so many copies of `to`, has the bytes of the marks too many; and no number is large
pub record Measured (needs rest marks copy bytes : ℕ) : Type 0 where
  pub sum : needs + bytes ≡ rest + marks * copy
  pub few : rest ≤ most_bytes
  pub copies : marks * copy ≤ most_bytes * most_bytes

module _ {S F C : Type 0} {s : AnyStr.Ghosts S C} {f : Searcher.Ghosts F S C} (c : Cutter S F C s f) where
  -- a cutter's place is within its text
  pub place-within : c.progress.place ≤ size (opening c)
  place-within =
      let on = boundary_from (s.elements c.text) c.progress.place c.placed in
      omega (arith, on.1, offset-within (s.elements c.text) on.0)

  module _ (law : Lawful (opening c).marks (size (opening c))) where
    -- the marks that are cut from there on lie within the rest
    pub ahead_bytes : cut_bytes (marks_ahead c) ≤ size (opening c) - c.progress.place
    ahead_bytes =
        let ms = marks_ahead c in
        let taken = length-poured (opening c) law [] ms c.progress.made c.progress.place place-within refl in
        omega (arith, taken, mul-zero (length ms))

    -- what a pour takes, by a tally of these marks
    pub measured : c.progress.spent ≡ false → size (opening c) ≤ most_bytes
        → (to : S) → length (concat (s.elements to)) ≤ most_bytes
        → (rest : Span) → rest ≡ (c.progress.place, size (opening c))
        → (tally : Tally) → IsTallyOf (marks_ahead c) tally → (copy : ℕ) → copy ≡ length (concat (s.elements to))
        → Measured (length (poured_by c to)) (rest.1 - rest.0) tally.marks copy tally.bytes
    measured unspent few to short rest is tally counts copy same =
        let on = opening c in
        let place = c.progress.place in
        let ms = marks_ahead c in
        let bytes = concat (s.elements to) in
        let start = ap (λ (p : Span). p.0) is in
        let end = ap (λ (p : Span). p.1) is in
        let here = ap (λ (b : Bool). length (poured on.bytes bytes place (cond {A = List Span} b [] ms))) unspent in
        let all = length-poured on law bytes ms c.progress.made place place-within refl in
        let within = cuts_within on law ms c.progress.made place place-within refl in
        let some : length ms ≤ most_bytes = omega arith in
        record {
          sum = rw (counts.marks, counts.bytes, same) (omega (arith, here, all, start, end));
          few = omega (arith, start, end);
          copies = rw (counts.marks, same) (mul-le-mul {n₂ = most_bytes} {m₂ = most_bytes} some short);
        }
