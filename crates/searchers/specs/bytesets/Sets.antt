-- The marks of a set of bytes: its single bytes. Assumes nothing.
use Rattle.std.specs.Prelude.{◌≡◌, ℕ, suc, ◌<◌, ◌≤◌, Bool, false, ◌&&◌, IsTrue, List, length, Ok, Err, Result, ◌==◌}
use Rattle.std.specs.Prelude.{nat_lt, slice_index, slice_index_or}
use Rattle.std.specs.List.{list_any}
use Rattle.std.proofs.Common.{arith, eqb-true, ltb-true}
use Rattle.std.proofs.lemmas.Bool.{and_parts}
use Rattle.anystr.specs.Refusals.{code}
use Rattle.anystr.specs.declared.refusal.Refusal.{Refusal}
use Rattle.searchers.specs.Marks.{Marks, Lawful, one_length-lawful}

-- whether a byte is one of these
abbrev pub among : List ℕ → ℕ → Bool
among bs b = list_any (λ x. x == b) bs

-- whether a byte is in a set that is held as a table of all bytes
abbrev pub member : List Bool → ℕ → Bool
member has b = slice_index_or has b false

-- a set has these bytes and no others
abbrev pub IsSetOf : List ℕ → (ℕ → Bool) → Type 0
IsSetOf bs set = (b : ℕ) → set b ≡ among bs b

-- the marks of a set: its bytes, each alone
abbrev pub single_bytes : (ℕ → Bool) → List ℕ → Marks
single_bytes set bs a e = nat_lt a (length bs) && (e == suc a && set (slice_index bs a))

-- every byte of a set is below `low`
abbrev pub AllBelow : (ℕ → Bool) → ℕ → Type 0
AllBelow set low = (b : ℕ) → IsTrue (set b) → b < low

-- n is the least byte of a set at or above `low`
pub record LeastFrom (set : ℕ → Bool) (low n : ℕ) : Type 0 where
  pub high : low ≤ n
  pub has : IsTrue (set n)
  pub least : (b : ℕ) → low ≤ b → IsTrue (set b) → n ≤ b

-- all of these bytes are below 128
abbrev pub AllAscii : List ℕ → Type 0
AllAscii bs = AllBelow (among bs) 128

-- what the check of a set for Text answers
abbrev pub AsciiChecked : {X : Type 0} → List ℕ → Result X Refusal → Type 0
AsciiChecked bs (Ok _) = AllAscii bs
AsciiChecked bs (Err e) = (n : ℕ) × LeastFrom (among bs) 128 n × (code e ≡ (11, n))

-- a mark of a set, by its parts
pub record SingleByte (set : ℕ → Bool) (bs : List ℕ) (a e : ℕ) : Type 0 where
  pub within : a < length bs
  pub end : e ≡ suc a
  pub has : IsTrue (set (slice_index bs a))

-- what a mark of a set is
pub single_bytes-is : (set : ℕ → Bool) (bs : List ℕ) (a e : ℕ)
    → IsTrue (single_bytes set bs a e) → SingleByte set bs a e
single_bytes-is set bs a e m =
    let p = and_parts _ _ m in
    let q = and_parts _ _ p.1 in
    record { within = ltb-true _ _ p.0; end = eqb-true _ _ q.0; has = q.1 }

-- the marks of a set keep what marks keep
pub single_bytes-lawful : (set : ℕ → Bool) (bs : List ℕ) → Lawful (single_bytes set bs) (length bs)
single_bytes-lawful set bs =
    one_length-lawful (single_bytes set bs) (length bs) 1
    (λ a e m. let s = single_bytes-is set bs a e m in (omega arith, omega arith, omega arith))
