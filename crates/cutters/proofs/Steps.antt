-- What next does, as the law's steps have it.
use Rattle.std.proofs.Common.{◌≡◌, ℕ, suc, ◌+◌, Bool, true, false, [], Some, sym, ap, ◌∙◌, add-one}
use Rattle.searchers.specs.Marks.{Span, Lawful, Least}
use Rattle.cuts.specs.Cuts.{Opening, size, cut_from, State, at, next_of}
use Rattle.cuts.specs.Runs.{Step, next}
use Rattle.cuts.proofs.Found.{next_cut, next_rest}
use Rattle.cuts.proofs.Greedy.{Few}

module _
    (on : Opening) (law : Lawful on.marks (size on)) (place made : ℕ) (spent : Bool) (unspent : spent ≡ false)
  where
    pub rest-step : cut_from on made place ≡ [] → (r : Span) (t : State) → r ≡ (place, size on)
        → t ≡ at (size on) made true → Step on (at place made spent) (next (Some r)) t
    rest-step none r t er et =
        let e : next_of on (at place made spent) ≡ (Some (place, size on), at (size on) made true) =
        ap (λ b. next_of on (at place made b)) unspent ∙ next_rest on law made place none in
        (ap Some er ∙ (λ i. (sym e i).0), et ∙ (λ i. (sym e i).1))

    pub cut_step : (a e : ℕ) → Few on.bound made → Least on.marks place a e
        → Step on (at place made spent) (next (Some (place, a))) (at e (made + 1) spent)
    cut_step a e few least =
        let q : next_of on (at place made spent) ≡ (Some (place, a), at e (suc made) false) =
        ap (λ b. next_of on (at place made b)) unspent ∙ next_cut on law made place a e few least in
        let m : made + 1 ≡ suc made = add-one made in
        ((λ i. (sym q i).0), (λ i. at e (m i) (unspent i)) ∙ (λ i. (sym q i).1))
