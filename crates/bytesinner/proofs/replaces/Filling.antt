-- What the passes of replace leave in the tray.
use Rattle.std.proofs.Common.{◌≡◌, ℕ, ◌+◌, ◌*◌, ◌≤◌, List, length, ℤ, pos, Ok, Result, sym, ap, ◌∙◌, subst}
use Rattle.std.specs.List.{concat}
use Rattle.anystr.specs.Limits.{most_bytes}
use Rattle.anystr.specs.Refusals.{coded}
use Rattle.anystr.specs.Texts.{bytes_of}
use Rattle.anystr.specs.declared.anystr.AnyStr
use Rattle.anystr.specs.declared.optional.OptionalArg.{OptionalArg}
use Rattle.anystr.specs.declared.optional.OptionalArg.TheVariants.{Present}
use Rattle.anystr.specs.declared.refusal.Refusal.{Refusal}
use Rattle.searchers.specs.declared.searcher.Searcher
use Rattle.trays.specs.Trays.{Contents, Fills, IsFilled}
use Rattle.cuts.specs.Cuts.{Opening, State, at_opening, needed, pour_of}
use Rattle.cutters.specs.Calls.{opening, state, Pours}
use Rattle.cutters.specs.declared.cutter.Cutter.{Cutter}
use Rattle.bytesinner.specs.replaces.Replaces.{most_result, bound_of, copy_count, poured_text, if_short}
use Rattle.bytesinner.specs.replaces.Replacements.{copies_spread}
use Rattle.bytesinner.specs.declared.replaces.Replacement.{Replacement}
use Rattle.bytesinner.proofs.replaces.Law.{spread_text-long, spread_text-within, cut-within, short, is-short}

-- a pour from a cutter that was just opened
pub opened_pour : {S F C Tray : Type 0} {s : AnyStr.Ghosts S C} {f : Searcher.Ghosts F S C} (contents : Tray → Contents)
    (c : Cutter S F C s f) (to : S) (tray : Tray) (r : Result (Unit {0}) Refusal) (d : Cutter S F C s f) (tray' : Tray)
    (on : Opening) → opening c ≡ on → state c ≡ at_opening → Pours contents c to tray r d tray'
    → Fills contents (Ok (needed on (bytes_of s to) at_opening)) tray tray' r
opened_pour {s = s} contents c to tray r d tray' on is new p =
    let Filled_by : Opening × State → Type 0 =
    λ o. IsFilled (pour_of o.0 (bytes_of s to) o.1) (contents tray) (contents tray') (coded r) in
    subst Filled_by (λ i. (is i, new i)) p.0

-- bytes within the limits are appended, or refused with their number
pub fills : {X : Type 0} (bytes all : List ℕ) (tray tray' : Contents) (r : Result X (ℕ × ℕ))
    → bytes ≡ all → length all ≤ most_result → IsFilled (Ok all) tray tray' r → IsFilled (if_short bytes) tray tray' r
fills bytes all tray tray' r same le p = rw (same, is-short all le) p

-- the sum that the code forms of a replacement
module _ {S C : Type 0} (s : AnyStr.Ghosts S C) (r : Replacement S C) (n len gap : ℕ)
    (count : n ≡ copy_count (length (s.elements r.text)) r.bound) (bytes : len ≡ length (bytes_of s r.text))
    (each : gap ≡ length (bytes_of s r.to)) where
  -- it is the bytes that are made
  pub copies_spread-sum : len + n * gap ≡ length (copies_spread s r)
  copies_spread-sum = rw (count, bytes, each) (sym (spread_text-long (s.elements r.text) (bytes_of s r.to) r.bound))

  -- it is not too long
  pub copies_spread-fits : len + n * gap ≤ most_result
  copies_spread-fits =
      let within = spread_text-within (s.elements r.text) (bytes_of s r.to) r.bound (s.filled r.text) in
      rw copies_spread-sum
      (short (copies_spread s r) (bytes_of s r.text) (bytes_of s r.to) (s.few r.text) (s.few r.to) within)

-- what is cut out is within the limits
pub cut_short : (es : List (List ℕ)) (from to : List ℕ) (bound : ℤ) → length (concat es) ≤ most_bytes
    → length to ≤ most_bytes → length (poured_text es from to bound) ≤ most_result
cut_short es from to bound few some =
    short (poured_text es from to bound) (concat es) to few some (cut-within es from to bound)

-- the bound of maxcount 0
pub bound-zero : (maxcount : OptionalArg ℤ) (z : ℤ) → maxcount ≡ Present z → z ≡ pos 0 → bound_of maxcount ≡ pos 0
bound-zero maxcount z is zero = ap bound_of is ∙ ap (λ k. bound_of (Present k)) zero
