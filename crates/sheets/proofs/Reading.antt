-- Reading a word escape by escape.
use Rattle.std.proofs.Common.{◌≡◌, ℕ, zero, suc, List, [], ◌∷◌, ◌++◌, length, drop, Ok, Err, Result, sym, refl, ap, ◌∙◌}
use Rattle.std.proofs.Common.{append_assoc}
use Rattle.std.proofs.lemmas.List.{append-nil, nil_from_length}
use Rattle.sheets.specs.Escapes.{before, named, named_at, read_past, taken, unescaped}
use Rattle.sheets.specs.declared.read.EscapeError.{EscapeError}

-- what is read past some bytes is what is read of the bytes after them
pub read_past-drop : (n : ℕ) (bs : List ℕ) → read_past n bs ≡ unescaped (drop n bs)
read_past-drop zero bs = refl
read_past-drop (suc n) [] = refl
read_past-drop (suc n) (b ∷ bs) = read_past-drop n bs

-- two lists before what is read are one
pub before-append : (xs ys : List ℕ) (r : Result (List ℕ) EscapeError) → before xs (before ys r) ≡ before (xs ++ ys) r
before-append xs ys (Ok bs) = ap Ok (sym (append_assoc xs ys bs))
before-append xs ys (Err e) = refl

module _ (word done rest : List ℕ) (was : before done (unescaped rest) ≡ unescaped word) where
  module _ (b : ℕ) (bs : List ℕ) (is : rest ≡ b ∷ bs) where
    at : before done (named (named_at b bs) (read_past (taken (named_at b bs)) bs)) ≡ unescaped word
    at = ap (λ r. before done (unescaped r)) (sym is) ∙ was

    -- a byte that can be read goes behind those that are read, and what it leaves is read next
    pub read-more : (e : ℕ × ℕ) → Ok e ≡ named_at b bs
        → before (done ++ (e.0 ∷ [])) (unescaped (drop e.1 bs)) ≡ unescaped word
    read-more e named_e =
        sym (before-append done (e.0 ∷ []) (unescaped (drop e.1 bs)))
        ∙ (ap (λ r. before done (before (e.0 ∷ []) r)) (sym (read_past-drop e.1 bs))
        ∙ (ap (λ r. before done (named r (read_past (taken r) bs))) named_e ∙ at))

    -- one that cannot be read says why the word cannot be
    pub read-wrong : (e : EscapeError) → Err e ≡ named_at b bs → unescaped word ≡ Err e
    read-wrong e named_e = sym at ∙ ap (λ r. before done (named r (read_past (taken r) bs))) (sym named_e)

  -- where nothing is left, what is read is what the word names
  pub read-all : length rest ≡ 0 → unescaped word ≡ Ok done
  read-all none =
      sym was ∙ (ap (λ r. before done (unescaped r)) (nil_from_length rest none) ∙ ap Ok (append-nil done))
