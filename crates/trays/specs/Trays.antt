-- What a tray holds and has spare, and what a call that fills one answers and leaves. Assumes nothing.
use Rattle.std.specs.Prelude.{◌≡◌, ℕ, ◌+◌, ◌<◌, ◌≤◌, List, [], ◌++◌, length, take, drop, Ok, Err, Result}
use Rattle.anystr.specs.declared.refusal.Refusal.{Refusal}
use Rattle.anystr.specs.declared.refusal.Refusal.TheVariants.{TooSmall}
use Rattle.anystr.specs.Refusals.{code, coded}

-- the bytes that a tray holds, and its spare bytes past them; as many are free
pub record Contents : Type 0 where
  pub held : List ℕ
  pub spare : List ℕ

-- a tray that holds nothing, with these bytes spare
abbrev pub empty_tray : List ℕ → Contents
empty_tray bytes = record { held = []; spare = bytes }

-- a tray over these bytes, of which it holds the first `len`
abbrev pub holding : ℕ → List ℕ → Contents
holding len bytes = record { held = take len bytes; spare = drop len bytes }

-- all the bytes of a tray: those that it holds, and then the spare ones
abbrev pub whole_tray : Contents → List ℕ
whole_tray tray = tray.held ++ tray.spare

-- a tray that gained these bytes, on the first of its spare ones
abbrev pub gained : Contents → List ℕ → Contents
gained tray bytes = record { held = tray.held ++ bytes; spare = drop (length bytes) tray.spare }

-- The tray before and after a call that is defined to append these bytes or to be refused with a code, and its answer.
-- Bytes that do not all fit are refused with their number. A refused call leaves the tray as it was.
abbrev pub IsFilled : {X : Type 0} → Result (List ℕ) (ℕ × ℕ) → Contents → Contents → Result X (ℕ × ℕ) → Type 0
IsFilled (Err c) tray tray' r = (r ≡ Err c) × (tray' ≡ tray)
IsFilled (Ok bytes) tray tray' (Ok _) = (length bytes ≤ length tray.spare) × (tray' ≡ gained tray bytes)
IsFilled (Ok bytes) tray tray' (Err c) =
    (length tray.spare < length bytes) × (c ≡ code (TooSmall (length bytes))) × (tray' ≡ tray)

-- the same of a tray of a type, by what such trays hold and have spare
abbrev pub Fills : {Tray X : Type 0} → (Tray → Contents) → Result (List ℕ) (ℕ × ℕ) → (tray tray' : Tray)
    → Result X Refusal → Type 0
Fills contents expected tray tray' r = IsFilled expected (contents tray) (contents tray') (coded r)

-- Bytes written behind the first `len` of some bytes; the answer is how many are held then.
abbrev pub Puts : (new : List ℕ) (len : ℕ) (bytes bytes' : List ℕ) → Result ℕ Refusal → Type 0
Puts new len bytes bytes' (Ok end) =
    (end ≡ len + length new) × (length new ≤ length (drop len bytes))
    × (holding end bytes' ≡ gained (holding len bytes) new)
Puts new len bytes bytes' (Err e) =
    (length (drop len bytes) < length new) × (code e ≡ code (TooSmall (length new))) × (bytes' ≡ bytes)
