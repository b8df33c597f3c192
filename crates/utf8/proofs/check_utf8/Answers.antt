use Rattle.std.proofs.Common.{◌≡◌, ℕ, take, Ok, Err, Result, List, sym, subst, arith, rules}
use Rattle.std.specs.Result.{MatchResult, IsErrAnd, IfOk, IfErr}
use Rattle.std.specs.Str.{IsValidUpTo, valid_up_to}
use Rattle.utf8.specs.Table.{IsLongestFormed}
use Rattle.utf8.proofs.Rows.{utf8_from_formed, formed-from_utf8}
use Rattle.utf8.proofs.check_utf8.Goals as goal

-- what a clause on a result says of the one that `map_err` makes of it
module _ {X E D : Type 0} (P P' : X → Type 0) (Q : E → Type 0) (Q' : D → Type 0) (V : E → D → Type 0) where
  mapped : (m : Result X E) (n : Result X D)
      → MatchResult m P Q → MatchResult m (λ x. n ≡ Ok x) (λ e. IsErrAnd n (V e))
      → ((x : X) → P x → P' x) → ((e : E) (d : D) → Q e → V e d → Q' d) → IfOk n P' × IfErr n Q'
  mapped (Ok x) n h l f g = subst (λ n. IfOk n P' × IfErr n Q') (sym l) (f x h, tt)
  mapped (Err e) (Ok y) h l f g = absurd l
  mapped (Err e) (Err d) h l f g = (tt, g e d h l)

-- what the library takes as valid is the longest well-formed beginning
longest : (bs : List ℕ) (n : ℕ) → IsValidUpTo bs n → IsLongestFormed bs n
longest bs n v =
    let short = v.short in
    record {
      within = omega arith;
      formed = formed-from_utf8 (take n bs) v.front;
      longest = λ m more fits w. v.longest m more (utf8_from_formed (take m bs) w);
    }

pub returns : goal.returns
returns c =
    let bs = c.args.bytes.now in
    let told = mapped _ _ _ _ _ c.from_utf8.result c.map_err.result c.from_utf8.ensures.cases c.map_err.ensures.cases
    (λ s k. (k.0, formed-from_utf8 bs k.1))
    (λ e n k is.
    let at : n ≡ valid_up_to e = search rules in
    (λ w. k.0 (utf8_from_formed bs w), subst (IsLongestFormed bs) (sym at) (longest bs _ k.1))) in
    record { text = told.0; longest = told.1; table = λ bs. (utf8_from_formed bs, formed-from_utf8 bs) }
