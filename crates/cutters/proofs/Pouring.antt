-- A tray while bytes are poured into it.
use Rattle.std.proofs.Common.{◌≡◌, ℕ, ◌≤◌, Bool, true, false, cond, List, [], ◌++◌, length, drop, Ok, Result, ap, ◌∙◌}
use Rattle.std.proofs.Common.{arith, length-append, length-drop}
use Rattle.trays.specs.Trays.{Contents, gained, IsFilled}
use Rattle.trays.proofs.Gains.{gained-append, took}

-- with `rest` still to come, which fits, the tray will be `full`
pub record Pouring (tray : Contents) (rest : List ℕ) (full : Contents) : Type 0 where
  pub room : length rest ≤ length tray.spare
  pub whole : gained tray rest ≡ full

-- one push more
pub pushed : (tray : Contents) (bytes rest : List ℕ) (full tray' : Contents) → Pouring tray (bytes ++ rest) full
    → tray' ≡ gained tray bytes → Pouring tray' rest full
pushed tray bytes rest full tray' p e =
    let spare : tray'.spare ≡ drop (length bytes) tray.spare = λ i. (e i).spare in
    record {
      room = omega (arith, p.room, ap length spare, length-drop (length bytes) tray.spare, length-append bytes rest);
      whole = ap (λ (t : Contents). gained t rest) e ∙ (gained-append tray bytes rest ∙ p.whole);
    }

-- a push of what comes next is taken
pub took_next : {X : Type 0} (bytes rest : List ℕ) {before : List ℕ} {tray full : Contents} (tray' : Contents)
    (r : Result X (ℕ × ℕ)) → before ≡ bytes ++ rest → Pouring tray before full
    → IsFilled (Ok bytes) tray tray' r → Pouring tray' rest full
took_next bytes rest {tray = tray} {full = full} tray' r split p push =
    let so_far = rw split at p in
    let fits : length bytes ≤ length tray.spare = omega (arith, so_far.room, length-append bytes rest) in
    pushed tray bytes rest full tray' so_far (took bytes tray tray' r fits push)

-- no more bytes come after a piece than stand in place of a mark
pub gap_short : (last : Bool) (to : List ℕ) → length (cond last [] to) ≤ length to
gap_short true to = omega arith
gap_short false to = omega arith
