-- The lines of a text are what one reads line by line.
use Rattle.std.proofs.Common.{◌≡◌, ℕ, suc, ◌+◌, ◌-◌, ◌<◌, ◌≤◌, true, false, not, ◌&&◌, eqb, ltb, ◌⊎◌, List, [], ◌∷◌}
use Rattle.std.proofs.Common.{◌++◌, map, length, get_or, take, drop, negsuc, sym, refl, ap, ◌∙◌, subst, inl, inr}
use Rattle.std.proofs.Common.{⊎_elim, append-nil, arith}
use Rattle.std.specs.List.{concat}
use Rattle.std.proofs.lemmas.List.{drop-drop, take-append-drop, take_rest, drop_all}
use Rattle.std.proofs.lemmas.Bool.{eq-eqb, ne_eqb, ltb-true, ltb-false, le-ltb, and_from, and_left, and_right, or_left}
use Rattle.std.proofs.lemmas.Bool.{or_right, not_from_false, cases_lt, cases_eq, cond_both}
use Rattle.anystr.specs.Places.{part}
use Rattle.searchers.specs.Marks.{Span}
use Rattle.searchers.specs.lineends.Lines.{cr, lf, line_end, LineEnd, pair, lone_cr, lone_lf, line_end-is}
use Rattle.searchers.specs.lineends.Lines.{line_end-lawful}
use Rattle.cuts.specs.Cuts.{between, cuts, all_marks}
use Rattle.cuts.proofs.Greedy.{Greedy}
use Rattle.cuts.proofs.Listed.{greedy_cuts}
use Rattle.bytesinner.specs.lines.Lines.{filled_pieces, with_ends, Bare, Reads, ended, line, last, LinesLaw}
use Rattle.bytesinner.specs.lines.Step.{filled_pieces-cons, starts}

-- each of the three is a mark
pub is-mark : (bs : List ℕ) (a e : ℕ) → LineEnd bs a e → line_end bs a e ≡ true
is-mark bs a e (pair x y z) = or_left _ _ (and_from _ _ (eq-eqb _ _ x) (and_from _ _ (eq-eqb _ _ y) (eq-eqb _ _ z)))
is-mark bs a e (lone_cr x y z) =
    let single = and_from _ _ (not_from_false _ (ne_eqb _ _ y)) (eq-eqb _ _ z) in
    or_right _ _ (or_left _ _ (and_from _ _ (eq-eqb _ _ x) single))
is-mark bs a e (lone_lf x y z) =
    let single = and_from _ _ (not_from_false _ (alone (cases_lt 0 a))) (eq-eqb _ _ z) in
    or_right (cr bs a && (lf bs (suc a) && eqb e (a + 2))) _
    (or_right (cr bs a && (not (lf bs (suc a)) && eqb e (suc a))) _ (and_from _ _ (eq-eqb _ _ x) single))
  where
    alone : (0 < a) ⊎ (a ≤ 0) → (ltb 0 a && cr bs (a - 1)) ≡ false
    alone (inl some) = and_right _ _ (ne_eqb _ _ (y some))
    alone (inr none) = and_left _ _ (le-ltb 0 a none)

-- a place that does not stand between a carriage return and its line feed
abbrev Apart : List ℕ → ℕ → Type 0
Apart bs p = 0 < p → get_or bs (p - 1) 0 ≡ 13 → get_or bs p 0 ≡ 10 → ⊥

-- behind a line end such a place stands
apart_after : (bs : List ℕ) (a e : ℕ) → LineEnd bs a e → Apart bs e
apart_after bs a e (pair x y z) some is then =
    let q : e - 1 ≡ suc a = omega arith in
    let t : get_or bs (suc a) 0 ≡ 13 = rw q at is in
    omega arith
apart_after bs a e (lone_cr x y z) some is then = y (rw z at then)
apart_after bs a e (lone_lf x y z) some is then =
    let q : e - 1 ≡ a = omega arith in
    let t : get_or bs a 0 ≡ 13 = rw q at is in
    omega arith

-- where no line end begins from p to e, no byte of one stands there
module _ (bs : List ℕ) (p e : ℕ) (apart : Apart bs p) (none : (b d : ℕ) → p ≤ b → b < e → LineEnd bs b d → ⊥) where
  no_cr : (k : ℕ) → p ≤ k → k < e → get_or bs k 0 ≡ 13 → ⊥
  no_cr k ge lt is =
      ⊎_elim
      (λ then. none k (k + 2) ge lt (pair is then refl))
      (λ other. none k (suc k) ge lt (lone_cr is other refl))
      (cases_eq (get_or bs (suc k) 0) 10)

  no_lf : (k : ℕ) → p ≤ k → k < e → get_or bs k 0 ≡ 10 → ⊥
  no_lf k ge lt is = none k (suc k) ge lt (lone_lf is before refl)
    where
      before : 0 < k → get_or bs (k - 1) 0 ≡ 13 → ⊥
      before some was = ⊎_elim
          (λ in-it. no_cr (k - 1) (omega arith) (omega arith) was)
          (λ first. let q : k ≡ p = omega arith in apart (omega arith) (rw q at was) (rw q at is))
          (cases_lt p k)

  bare : Bare bs p e
  bare k ge lt = (no_lf k ge lt, no_cr k ge lt)

-- the text from p on is read as these lines
abbrev ReadAs : List ℕ → ℕ → List Span → Type 0
ReadAs bs p ls = Reads bs p ls (with_ends (length bs) ls)

-- the pieces between the line ends that a cutter cuts are so read
reads-from : (bs : List ℕ) (n p : ℕ) (ms : List Span) → Greedy (line_end bs) (negsuc 0) n p ms (length bs) → Apart bs p
    → ReadAs bs p (filled_pieces (between p (length bs) ms))
reads-from bs n p [] g apart =
    let none : (b d : ℕ) → p ≤ b → b < length bs → LineEnd bs b d → ⊥ =
    λ b d ge lt m. g.1 refl b d (is-mark bs b d m) ge lt in
    cond_both (ltb p (length bs)) ((p, length bs) ∷ []) [] (ReadAs bs p)
    (λ is. last (ltb-true p (length bs) is) (bare bs p (length bs) apart none))
    (λ no. ended (omega (arith, ltb-false p (length bs) no, g.0)))
reads-from bs n p (m ∷ ms) g apart =
    let least = g.0 in
    let len : ℕ = length bs in
    let end : LineEnd bs m.0 m.1 = line_end-is bs m.0 m.1 least.is in
    let others : List Span = filled_pieces (between m.1 len ms) in
    let none : (b d : ℕ) → p ≤ b → b < m.0 → LineEnd bs b d → ⊥ =
    λ b d ge lt k. let le = least.least b d ge (is-mark bs b d k) in omega arith in
    let rest = reads-from bs (suc n) m.1 ms g.2 (apart_after bs m.0 m.1 end) in
    let here : Reads bs p ((p, m.0) ∷ others) ((p, m.1) ∷ with_ends len others) =
    line least.after (bare bs p m.0 apart none) end rest in
    let begins = starts m.1 len ms ((line_end-lawful bs).within m.0 m.1 least.is) in
    subst (ReadAs bs p) (sym (filled_pieces-cons (p, m.0) m.1 len ms))
    (subst (λ (k : ℕ). Reads bs p ((p, m.0) ∷ others) ((p, k) ∷ with_ends len others)) (sym begins) here)

-- the lines with their ends make up the bytes
whole_from : (bs : List ℕ) {p : ℕ} {ls ks : List Span} → Reads bs p ls ks → concat (map (part bs) ks) ≡ drop p bs
whole_from bs {p} (ended is) = sym (drop_all p bs (omega arith))
whole_from bs {p} (line {a = a} {e = e} from clear end more) =
    let mark = is-mark bs a e end in
    let long = (line_end-lawful bs).nonempty a e mark in
    let z : p + (e - p) ≡ e = omega arith in
    let rest = whole_from bs more ∙ ap (λ (j : ℕ). drop j bs) (sym z) ∙ sym (drop-drop (e - p) p bs) in
    ap (λ (xs : List ℕ). take (e - p) (drop p bs) ++ xs) rest ∙ take-append-drop (e - p) (drop p bs)
whole_from bs {p} (last lt clear) = append-nil _ ∙ take_rest bs p

-- the definition keeps the law
pub lines-law : (bs : List ℕ) → LinesLaw bs
lines-law bs =
    let marks = cuts (negsuc 0) 0 0 (all_marks (line_end bs) (length bs)) in
    let greedy = greedy_cuts (negsuc 0) (line_end-lawful bs) 0 0 (omega arith) in
    let read = reads-from bs 0 0 marks greedy (λ some was then. omega arith) in
    record { reads = read; whole = whole_from bs read }
