-- What is told of calls, and of a pour into a tray of a list.
use Rattle.std.proofs.Common.{◌≡◌, ℕ, List, map, set, Result, sym, subst}
use Rattle.std.specs.List.{concat}
use Rattle.anystr.specs.Refusals.{coded}
use Rattle.anystr.specs.declared.anystr.AnyStr
use Rattle.anystr.specs.declared.refusal.Refusal.{Refusal}
use Rattle.searchers.specs.declared.searcher.Searcher
use Rattle.trays.specs.Trays.{Contents}
use Rattle.cuts.specs.Runs.{Event, Step, pour}
use Rattle.cutters.specs.Calls.{opening, state}
use Rattle.cutters.specs.Plays.{tray_at, Plays, PoursAt}
use Rattle.cutters.specs.declared.cutter.Cutter.{Cutter}
use Rattle.cutters.specs.declared.play.Call.{Call}
use Rattle.cutters.specs.declared.play.Answer.{Answer}

-- the same of calls and answers that are known by equations
pub plays_at : {S C : Type 0} {s : AnyStr.Ghosts S C} {cs cs' : List (Call S C)} {rs rs' : List Answer}
    {ts ts' : List Contents} {es : List Event}
    → cs ≡ cs' → rs ≡ rs' → Plays s cs' rs' ts es ts' → Plays s cs rs ts es ts'
plays_at {s = s} {cs = cs} {rs' = rs'} {ts = ts} {ts' = ts'} {es = es} p q t =
    subst (λ x. Plays s cs x ts es ts') (sym q) (subst (λ x. Plays s x rs' ts es ts') (sym p) t)

-- a pour into a tray `t`, which is the one that the list has at the index
pub pours_at : {S F C : Type 0} {s : AnyStr.Ghosts S C} {f : Searcher.Ghosts F S C} {Tray : Type 0}
    (contents : Tray → Contents) (c d : Cutter S F C s f) (to : S) (i : ℕ) (trays trays' : List Tray)
    (r : Result (Unit {0}) Refusal) (t t' : Contents) → t ≡ tray_at (map contents trays) i
    → map contents trays' ≡ set (map contents trays) i t'
    → Step (opening c) (state c) (pour (concat (s.elements to)) t (coded r) t') (state d)
    → PoursAt contents c to i trays r d trays'
pours_at {s = s} contents c d to i trays trays' r t t' at others step =
    let bytes = concat (s.elements to) in
    record {
      tray' = t';
      others = others;
      step = subst (λ (x : Contents). Step (opening c) (state c) (pour bytes x (coded r) t') (state d)) at step;
    }
