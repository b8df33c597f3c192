-- The runs that are left, past the whitespace at the front and past the run that follows it.
use Rattle.std.proofs.Common.{◌≡◌, ℕ, suc, ◌+◌, ◌<◌, Bool, true, false, not, ltb, List, [], ◌∷◌, ◌++◌, length, drop}
use Rattle.std.proofs.Common.{Some, Option}
use Rattle.std.proofs.Common.{sym, refl, ap, ◌∙◌, subst, arith}
use Rattle.std.specs.Bool.{beq, ⊤}
use Rattle.std.specs.Iterator.{MakesProgress, item_count}
use Rattle.std.specs.List.{slice_range}
use Rattle.std.proofs.lemmas.List.{drop-drop, append-nil, take_rest}
use Rattle.std.proofs.lemmas.Bool.{lt-ltb, cond_both, cond-true, cond-false}
use Rattle.anystr.specs.declared.anystr.AnyStr
use Rattle.searchers.specs.Marks.{Span}
use Rattle.searchers.specs.Seen.{IsSeenOf}
use Rattle.searchers.specs.bytesets.Sets.{single_bytes}
use Rattle.searchers.specs.declared.seen.Seen.{Seen}
use Rattle.cutters.specs.Calls.{span}
use Rattle.cutters.specs.declared.piece.Piece.{Piece}
use Rattle.cutters.proofs.Yielding.{goes_on}
use Rattle.bytesinner.specs.words.Words.{is_space, stretch_len, run, runs_from, runs_left, first_run}
use Rattle.bytesinner.specs.words.Runs.{bytes, left_runs, RunStep}
use Rattle.bytesinner.specs.declared.words.runs.Runs.{Runs}
use Rattle.bytesinner.specs.words.Yields.{no_run, next-yields}

-- a stretch with a byte is a run
pub one_run : (a e : ℕ) → a < e → run a e ≡ (a, e) ∷ []
one_run a e lt = cond-true (ltb a e) _ _ (lt-ltb a e lt)

-- what a comparison of two tests says
same : (x y : Bool) → beq x y ≡ true → y ≡ x
same true true h = refl
same true false h = cc
same false true h = cc
same false false h = refl

other : (x y : Bool) → beq x y ≡ false → y ≡ not x
other true true h = cc
other true false h = refl
other false true h = refl
other false false h = cc

-- what holds of a stretch at the front, by whether the first byte is in it
front : (b : ℕ) (bs : List ℕ) (spaces : Bool) (P : ℕ → Type 0)
    → (is_space b ≡ spaces → P (suc (stretch_len bs spaces))) → (is_space b ≡ not spaces → P 0)
    → P (stretch_len (b ∷ bs) spaces)
front b bs spaces P in-it past =
    let s : suc (stretch_len bs spaces) ≡ 1 + stretch_len bs spaces = omega arith in
    cond_both (beq spaces (is_space b)) (1 + stretch_len bs spaces) 0 P
    (λ h. subst P s (in-it (same spaces (is_space b) h)))
    (λ h. past (other spaces (is_space b) h))

-- the runs behind the first n of these bytes, which stand from i on
abbrev behind : ℕ → List ℕ → ℕ → List Span
behind i bs n = runs_from (i + n) (i + n) (drop n bs)

-- no run ends at whitespace where none is under way
at_space : (i b : ℕ) (bs : List ℕ) → is_space b ≡ true → runs_from i i (b ∷ bs) ≡ runs_from (suc i) (suc i) bs
at_space i b bs is =
    cond-true (is_space b) _ _ is ∙ ap (λ (rs : List Span). rs ++ runs_from (suc i) (suc i) bs) (no_run i)

-- no run ends in the whitespace at the front
over_space : (i : ℕ) (bs : List ℕ) → runs_from i i bs ≡ behind i bs (stretch_len bs true)
over_space i [] = let z : i ≡ i + 0 = omega arith in ap (λ (k : ℕ). run k k) z
over_space i (b ∷ bs) = front b bs true (λ n. runs_from i i (b ∷ bs) ≡ behind i (b ∷ bs) n)
    (λ is.
    let n = stretch_len bs true in
    let e : suc i + n ≡ i + suc n = omega arith in
    at_space i b bs is ∙ (over_space (suc i) bs ∙ ap (λ (k : ℕ). runs_from k k (drop n bs)) e))
    (λ is. let z : i ≡ i + 0 = omega arith in ap (λ (k : ℕ). runs_from k k (b ∷ bs)) z)

-- the run under way, which ends behind n more bytes, and the runs behind it
abbrev then_behind : (from i : ℕ) → List ℕ → ℕ → List Span
then_behind from i bs n = run from (i + n) ++ behind i bs n

-- the stretch under way goes on to the next whitespace
through_run : (from i : ℕ) (bs : List ℕ) → runs_from from i bs ≡ then_behind from i bs (stretch_len bs false)
through_run from i [] =
    let z : i ≡ i + 0 = omega arith in
    sym (append-nil (run from i)) ∙ ((λ k. run from i ++ sym (no_run i) k) ∙ ap (λ (k : ℕ). run from k ++ run k k) z)
through_run from i (b ∷ bs) = front b bs false (λ n. runs_from from i (b ∷ bs) ≡ then_behind from i (b ∷ bs) n)
    (λ is.
    let n = stretch_len bs false in
    let e : suc i + n ≡ i + suc n = omega arith in
    cond-false (is_space b) _ _ is
    ∙ (through_run from (suc i) bs ∙ ap (λ (k : ℕ). run from k ++ runs_from k k (drop n bs)) e))
    (λ is.
    let z : i ≡ i + 0 = omega arith in
    cond-true (is_space b) _ _ is
    ∙ ((λ k. run from i ++ sym (at_space i b bs is) k) ∙ ap (λ (k : ℕ). run from k ++ runs_from k k (b ∷ bs)) z))

-- past the whitespace at the front stands something that is none, or nothing
ends : (bs : List ℕ) → stretch_len (drop (stretch_len bs true) bs) false ≡ 0 → drop (stretch_len bs true) bs ≡ []
ends [] = λ h. refl
ends (b ∷ bs) = front b bs true (λ n. stretch_len (drop n (b ∷ bs)) false ≡ 0 → drop n (b ∷ bs) ≡ [])
    (λ is. ends bs)
    (λ is. front b bs false (λ n. n ≡ 0 → b ∷ bs ≡ [])
    (λ _ h. absurd (omega arith))
    (λ bare h. let t : true ≡ false = sym bare ∙ is in cc))

-- what a scan from an offset on finds: where the whitespace there ends, and where the bytes end that are none
pub record Scanned (bytes : List ℕ) (place start end : ℕ) : Type 0 where
  pub over : start ≡ place + stretch_len (drop place bytes) true
  pub through : end ≡ start + stretch_len (drop start bytes) false

-- a scan of the bytes that are read from the offset on, by what was seen of the whitespace
pub scanned : {bytes : List ℕ} {place len end : ℕ} {seen : Seen} (all rest : List ℕ) → all ≡ bytes
    → IsSeenOf (single_bytes is_space bytes) seen
    → rest ≡ slice_range all place (length all) → len ≡ stretch_len rest true
    → (IsSeenOf (single_bytes is_space all) seen → end ≡ place + len + stretch_len (drop (place + len) all) false)
    → Scanned bytes place (place + len) end
scanned {place = place} {len = len} {seen = seen} all rest same looked is over through =
    let from_place = is ∙ take_rest all place ∙ ap (drop place) same in
    let of = subst (λ bs. IsSeenOf (single_bytes is_space bs) seen) (sym same) looked in
    record {
      over = ap (λ (n : ℕ). place + n) (over ∙ ap (λ (bs : List ℕ). stretch_len bs true) from_place);
      through = through of ∙ ap (λ (bs : List ℕ). place + len + stretch_len (drop (place + len) bs) false) same;
    }

module _ (bytes : List ℕ) (place start end : ℕ) (s : Scanned bytes place start end) where
  -- the bytes past the whitespace
  past_space : drop (stretch_len (drop place bytes) true) (drop place bytes) ≡ drop start bytes
  past_space =
      drop-drop (stretch_len (drop place bytes) true) place bytes ∙ ap (λ (k : ℕ). drop k bytes) (sym s.over)

  passed_over : runs_left bytes place ≡ runs_left bytes start
  passed_over =
      over_space place (drop place bytes)
      ∙ (λ k. runs_from (sym s.over k) (sym s.over k) (past_space k))

  -- a scan that found no byte has found the end
  pub none_left : start ≡ end → runs_left bytes place ≡ []
  none_left none =
      let bare : stretch_len (drop start bytes) false ≡ 0 = omega (arith, s.through) in
      let at_end = ends (drop place bytes) (ap (λ (bs : List ℕ). stretch_len bs false) past_space ∙ bare) in
      passed_over ∙ ap (runs_from start start) (sym past_space ∙ at_end) ∙ no_run start

  -- one that found some has found the next run
  pub run_after : start < end → runs_left bytes place ≡ (start, end) ∷ runs_left bytes end
  run_after some =
      let len : ℕ = stretch_len (drop start bytes) false in
      let through = through_run start start (drop start bytes) in
      let after = drop-drop len start bytes in
      let there = sym s.through in
      let rest = after ∙ ap (λ (k : ℕ). drop k bytes) there in
      passed_over ∙ through
      ∙ (λ k. run start (there k) ++ runs_from (there k) (there k) (rest k))
      ∙ ap (λ (rs : List Span). rs ++ runs_left bytes end) (one_run start end some)

-- a run as a piece
abbrev a_run : (start end : ℕ) → Option Piece
a_run start end = Some (record { start = start; end = end })

-- a next that stops behind the run gives it, and one fewer is left
pub gives_run : {S C : Type 0} (t : AnyStr.Ghosts S C) (rs : Runs S C t) (start end : ℕ)
    → Scanned (bytes t rs) rs.place start end → start < end
    → (ss : Runs S C t) → ss.place ≡ end → ss.text ≡ rs.text
    → RunStep t rs (a_run start end) ss × MakesProgress (λ _. ⊤) (item_count (left_runs t)) rs (a_run start end) ss
gives_run t rs start end s some ss place text =
    let run = a_run start end in
    let step : RunStep t rs run ss = record {
      step =
          (λ k. (Some (start, end), place k))
          ∙ ap (first_run rs.place) (sym (run_after (bytes t rs) rs.place start end s some));
      same = text;
    } in
    (step, goes_on span (left_runs t) rs run ss (next-yields t rs run ss step))
