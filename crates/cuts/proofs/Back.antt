-- What a cutter from the end gives next, by what a searcher answers from the end.
use Rattle.std.proofs.Common.{◌≡◌, ℕ, suc, ◌-◌, ◌≤◌, Bool, true, false, [], map, length, Some, None, Option, ap, ◌∙◌}
use Rattle.std.proofs.Common.{arith}
use lib.ListN.{length-map}
use Rattle.std.specs.Option.{option_map}
use Rattle.anystr.specs.Limits.{most_bytes}
use Rattle.searchers.specs.Marks.{Span, Lawful, Greatest, NoneBefore}
use Rattle.cuts.specs.Cuts.{Opening, size, State, at, fewer, cut_from, pieces_left, next_of}
use Rattle.cuts.specs.Splits.{flip, mirrored_opening, left_back, next_back}
use Rattle.cuts.proofs.Greedy.{Few}
use Rattle.cuts.proofs.Found.{next_cut, next_rest, none_found, used_up}
use Rattle.cuts.proofs.Mirror.{mirror-lawful, mirror-least, mirror-none}
use Rattle.cuts.proofs.Sizes.{pieces_few}
use Rattle.cuts.proofs.Yielding.{GivesFirst, next_yields}

module _ (on : Opening) (law : Lawful on.marks (size on)) where
  end-law : Lawful (mirrored_opening on).marks (size (mirrored_opening on))
  end-law = mirror-lawful on.marks (size on) law

  pub back_few : size on ≤ most_bytes → (s : State) → length (left_back on s) ≤ suc most_bytes
  back_few few s =
      let turned = length-map (pieces_left (mirrored_opening on) s) (flip (size on)) in
      omega (arith, turned, pieces_few (mirrored_opening on) end-law few s)

  -- the next piece is the first of those that are left
  pub back_yields : (place made : ℕ) (spent : Bool)
      → GivesFirst (left_back on) (at place made spent) (next_back on (at place made spent))
  back_yields place made spent =
      turned (next_of (mirrored_opening on) s).0 (next_yields (mirrored_opening on) end-law place made spent)
    where
      s : State
      s = at place made spent

      t : State
      t = (next_of (mirrored_opening on) s).1

      turned : (r : Option Span) → GivesFirst (pieces_left (mirrored_opening on)) s (r, t)
          → GivesFirst (left_back on) s (option_map (flip (size on)) r, t)
      turned None h = (ap (map (flip (size on))) h.0, ap (map (flip (size on))) h.1)
      turned (Some p) h = ap (map (flip (size on))) h

  module _ (place made : ℕ) (spent : Bool) (unspent : spent ≡ false) (within : place ≤ size on) where
    -- the place as it is seen from the end
    abbrev seen : ℕ
    seen = size on - place

    -- this piece comes next, and leaves this state
    abbrev pub Comes : Span → State → Type 0
    Comes p t = next_back on (at seen made spent) ≡ (Some p, t)

    comes : (a : ℕ) (t : State) → a ≤ size on
        → next_of (mirrored_opening on) (at seen made false) ≡ (Some (seen, size on - a), t) → Comes (a, place) t
    comes a t le e =
        let start : size on - (size on - a) ≡ a = omega arith in
        let stop : size on - (size on - place) ≡ place = omega arith in
        (λ i. next_back on (at seen made (unspent i)))
        ∙ ((λ i. (option_map (flip (size on)) (e i).0, (e i).1)) ∙ (λ i. (Some (start i, stop i), t)))

    -- the last piece begins at the start of the text
    comes_last : cut_from (mirrored_opening on) made seen ≡ [] → Comes (0, place) (at (size on) made true)
    comes_last none =
        let all : size on ≡ size on - 0 = omega arith in
        comes 0 _ (omega arith)
        (next_rest (mirrored_opening on) end-law made seen none ∙ (λ i. (Some (seen, all i), at (size on) made true)))

    pub back_used : fewer made on.bound ≡ false → Comes (0, place) (at (size on) made true)
    back_used used = comes_last (used_up (mirrored_opening on) end-law made seen used)

    pub back_none : NoneBefore on.marks place → Comes (0, place) (at (size on) made true)
    back_none none =
        let none_seen = mirror-none on.marks (size on) law place within none in
        comes_last (none_found (mirrored_opening on) end-law made seen none_seen)

    pub back_cut : (a e : ℕ) → Few on.bound made → Greatest on.marks place a e
        → Comes (e, place) (at (size on - a) (suc made) false)
    back_cut a e few g =
        let least = mirror-least on.marks (size on) law place a e within g in
        comes e _ (law.within a e g.is)
        (next_cut (mirrored_opening on) end-law made seen (size on - e) (size on - a) few least)
