-- Rows whose number of fields is not the expected one.
use Rattle.std.proofs.Common.{◌≡◌, ℕ, zero, suc, ◌+◌, ◌<◌, false, List, [], ◌∷◌, ◌++◌, map, length, get_or, take}
use Rattle.std.proofs.Common.{inl, inr, Ok, Err, Result, sym, refl, ap, ◌∙◌}
use Rattle.std.proofs.Common.{append_assoc, arith, subst, eqb}
use Rattle.std.proofs.lemmas.Bool.{cond-true, cond-false, eq-eqb}
use Rattle.std.proofs.lemmas.List.{append-nil, take_all, take_more, length-map, length-take-le, get_or-map, map-append}
use Rattle.anystr.specs.Elements.{Cut}
use Rattle.anystr.specs.Places.{Lists, stretches, part, stretch}
use Rattle.anystr.specs.Refusals.{code}
use Rattle.anystr.specs.declared.place.Place.{Place}
use Rattle.anystr.specs.declared.refusal.Refusal.{Refusal}
use Rattle.searchers.specs.Marks.{Span}
use Rattle.bytesinner.specs.Openings.{unbounded}
use Rattle.bytesinner.specs.Written.{OfWritten, Cuttable}
use Rattle.bytesinner.specs.splits.Separated.{split_of}
use Rattle.sheets.specs.Rows.{field_count, header_count, deviating, needed_of, unless_expected, seen, Seen}
use Rattle.sheets.specs.declared.rows.Deviant.{Deviant}

-- what a call that had no room wants is how many places it lists
pub needed-places : (ps : List Span) (list list' : List Place) (r : Result ℕ Refusal) → Lists (Ok ps) list list' r
    → needed_of r ≡ length ps
needed-places ps list list' (Ok n) l = l.0
needed-places ps list list' (Err e) l = ap (λ c. c.1) l.1

-- so it is of a split, at an empty separator too
pub needed-split : (bytes sep : List ℕ) (list list' : List Place) (r : Result ℕ Refusal)
    → Lists (split_of bytes sep unbounded) list list' r → needed_of r ≡ field_count sep bytes
needed-split bytes [] list list' (Ok n) l = let bad : ◌≡◌ {A = Result ℕ (ℕ × ℕ)} (Ok n) (Err (1, 0)) = l.0 in cc
needed-split bytes [] list list' (Err e) l = let is : ◌≡◌ {A = Result ℕ (ℕ × ℕ)} (Err (code e)) (Err (1, 0)) = l.0 in cc
needed-split bytes (x ∷ xs) list list' r l = needed-places _ list list' r l

-- a list with an entry for each place has them
pub all-listed : (ps : List Span) (list list' : List Place) (r : Result ℕ Refusal) → length list ≡ length ps
    → length list' ≡ length list → Lists (Ok ps) list list' r → stretches list' ≡ ps
all-listed ps list list' (Ok n) long same l =
    ap stretches (sym (take_all n list' (omega (arith, l.0)))) ∙ l.2
all-listed ps list list' (Err e) long same l = absurd (omega (arith, l.0))

-- and each of them can be cut out
pub all-cuttable : (es : List (List ℕ)) (ps : List Span) (list list' : List Place) (r : Result ℕ Refusal)
    → length list ≡ length ps → Lists (Ok ps) list list' r → OfWritten (Cuttable es) list' r → Cuttable es ps
all-cuttable es ps list list' (Ok n) long l w = subst (Cuttable es) l.2 w
all-cuttable es ps list list' (Err e) long l w = absurd (omega (arith, l.0))

-- so can that of an index
pub cuttable-at : (es : List (List ℕ)) (rows : List Place) (k : ℕ) (d : Place) → k < length rows
    → Cuttable es (stretches rows) → Cut es (get_or rows k d).start (get_or rows k d).end
cuttable-at es [] k d lt cut = absurd (omega arith)
cuttable-at es (r ∷ rows) zero d lt cut = cut (stretch r) (inl refl)
cuttable-at es (r ∷ rows) (suc k) d lt cut = cuttable-at es rows k d (omega arith) (λ p there. cut p (inr there))

-- the header is the first row
pub header-first : (sep bytes : List ℕ) (rows : List Place) (d : Place) → 0 < length rows
    → header_count sep bytes (stretches rows) ≡ field_count sep (part bytes (stretch (get_or rows 0 d)))
header-first sep bytes [] d some = absurd (omega arith)
header-first sep bytes (r ∷ rows) d some = refl

module _ (sep bytes : List ℕ) (expected : ℕ) where
  -- one row more
  pub deviating-more : (rows : List Span) (row : Span) (number : ℕ)
      → deviating sep bytes expected number (rows ++ row ∷ [])
      ≡ deviating sep bytes expected number rows
      ++ unless_expected expected (number + length rows) row (field_count sep (part bytes row))
  deviating-more [] row number = append-nil (at number) ∙ ap at (omega arith)
    where
      at : ℕ → List Seen
      at n = unless_expected expected n row (field_count sep (part bytes row))
  deviating-more (r ∷ rows) row number =
      ap (λ ds. first ++ ds) (deviating-more rows row (number + 1) ∙ ap (λ ds. others ++ ds) (ap at (omega arith)))
      ∙ sym (append_assoc first others (at (number + suc (length rows))))
    where
      at : ℕ → List Seen
      at n = unless_expected expected n row (field_count sep (part bytes row))

      first : List Seen
      first = unless_expected expected number r (field_count sep (part bytes r))

      others : List Seen
      others = deviating sep bytes expected (number + 1) rows

  -- one row of a sheet more, which has so many fields
  module _ (rows : List Place) (k : ℕ) (d : Place) (lt : k < length rows) (fields : ℕ)
      (is : fields ≡ field_count sep (part bytes (stretch (get_or rows k d)))) where
    abbrev row : Span
    row = stretch (get_or rows k d)

    -- the rows before it, compared
    abbrev past : List Seen
    past = deviating sep bytes expected 1 (take k (stretches rows))

    -- a row of this number, if it deviates
    abbrev one : ℕ → Span → List Seen
    one n r = unless_expected expected n r (field_count sep (part bytes r))

    step : deviating sep bytes expected 1 (take (k + 1) (stretches rows))
        ≡ past ++ unless_expected expected (k + 1) row fields
    step =
        let last = get_or (stretches rows) k (stretch d) in
        let within : k < length (stretches rows) = omega (arith, length-map rows stretch) in
        let short = length-take-le k (stretches rows) (omega (arith, length-map rows stretch)) in
        let number : 1 + length (take k (stretches rows)) ≡ k + 1 = omega (arith, short) in
        let there : last ≡ row = get_or-map stretch rows k d (stretch d) lt in
        ap (deviating sep bytes expected 1) (take_more (stretches rows) k (stretch d) within)
        ∙ (deviating-more (take k (stretches rows)) last 1
        ∙ ap (λ ds. past ++ ds)
        (ap (λ n. one n last) number
        ∙ (ap (one (k + 1)) there ∙ ap (unless_expected expected (k + 1) row) (sym is))))

    module _ (old : List Deviant) (was : map seen old ≡ past) where
      -- it is put down where they are not those that are expected
      pub put-down : (new : List Deviant) (at : Deviant) → new ≡ old ++ at ∷ [] → seen at ≡ (k + 1, row, fields)
          → eqb fields expected ≡ false → map seen new ≡ deviating sep bytes expected 1 (take (k + 1) (stretches rows))
      put-down new at added same other =
          ap (map seen) added
          ∙ (map-append seen old (at ∷ [])
          ∙ (ap (λ ds. ds ++ (seen at ∷ [])) was
          ∙ (ap (λ x. past ++ (x ∷ [])) same
          ∙ (ap (λ ds. past ++ ds) (sym (cond-false _ _ _ other)) ∙ sym step))))

      -- and else passed over
      pub passed-over : fields ≡ expected
          → map seen old ≡ deviating sep bytes expected 1 (take (k + 1) (stretches rows))
      passed-over same =
          was
          ∙ (sym (append-nil past)
          ∙ (ap (λ ds. past ++ ds) (sym (cond-true _ _ _ (eq-eqb fields expected same))) ∙ sym step))
