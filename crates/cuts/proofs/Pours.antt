-- A pour on a cutter that is not spent.
use Rattle.std.proofs.Common.{◌≡◌, ℕ, Bool, false, List, Ok, Err, Result, sym, subst}
use Rattle.std.specs.Prelude.{if◌then◌else◌}
use Rattle.anystr.specs.declared.refusal.Refusal.TheVariants.{Spent}
use Rattle.anystr.specs.Refusals.{code}
use Rattle.trays.specs.Trays.{Contents, IsFilled}
use Rattle.cuts.specs.Cuts.{Opening, State, needed, pour_of}

-- it is defined to append the bytes of the rest
pub pours : (on : Opening) (to : List ℕ) (s : State) (tray tray' : Contents) (r : Result (Unit {0}) (ℕ × ℕ))
    → s.spent ≡ false → IsFilled (Ok (needed on to s)) tray tray' r → IsFilled (pour_of on to s) tray tray' r
pours on to s tray tray' r unspent h =
    subst (λ (b : Bool). IsFilled (if b then Err (code Spent) else Ok (needed on to s)) tray tray' r) (sym unspent) h
