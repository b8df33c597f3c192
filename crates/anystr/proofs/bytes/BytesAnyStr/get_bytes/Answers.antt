use Rattle.std.proofs.Common.{◌≡◌, ℕ, ◌<◌, ◌≤◌, ◌⊎◌, refl, List, [], length, Some, None, Option, Bor}
use Rattle.std.proofs.Common.{ap, subst, sym, ⊎_elim, arith}
use Rattle.std.specs.Option.{unwrap_or}
use Rattle.std.specs.Slice.{IsGetRangeResult}
use Rattle.anystr.specs.Elements.{Cut, Part}
use Rattle.anystr.specs.OfBytes.{singles, boundary}
use Rattle.anystr.proofs.Parts.{part-singles}
use Rattle.anystr.proofs.Singles.{within}
use Rattle.anystr.proofs.bytes.BytesAnyStr.get_bytes.Goals as goal

cut : (bs : List ℕ) (a b : ℕ) → a ≤ b → b ≤ length bs → Cut (singles bs) a b
cut bs a b o w = record { order = o; start = boundary bs a (omega arith); end = boundary bs b w }

no_cut : (bs : List ℕ) (a b : ℕ) → ((b < a) ⊎ (length bs < b)) → ¬ Cut (singles bs) a b
no_cut bs a b h k =
    let o = k.order in
    let w = within bs b k.end in
    ⊎_elim (λ l. omega arith) (λ l. omega arith) h

-- what is given where the range is one of the bytes, and where it is none
module _ (bs : List ℕ) (a b : ℕ) where
  abbrev Given : List ℕ → Type 0
  Given xs = Cut (singles bs) a b → Part (singles bs) (singles xs) a b

  abbrev Refused : List ℕ → Type 0
  Refused xs = ¬ Cut (singles bs) a b → singles xs ≡ []

  got : (r : Option (Bor (List ℕ))) (d : Bor (List ℕ)) → d.now ≡ [] → IsGetRangeResult bs a b r
      → Given (unwrap_or r d).now × Refused (unwrap_or r d).now
  got None d e h = (λ k. absurd (no_cut bs a b h.0 k), λ _. ap singles e)
  got (Some x) d e h = (
    λ k. subst (λ xs. Part (singles bs) (singles xs) a b) (sym h.0.2) (part-singles bs a b h.0.0 h.0.1),
    λ bad. absurd (bad (cut bs a b h.0.0 h.0.1)),
  )

pub returns : goal.returns
returns c =
    let range = c.args.range in
    let none : Bor (List ℕ) = record { ref_ptr = _; now = [] } in
    let g = got c.args.self.now.bytes.now range.start range.end c.get.result none refl c.get.ensures.lookup in
    rw c.unwrap_or.ensures (record { given = g.0; refused = g.1 })
