-- What options mean, where they are not refused.
use Rattle.std.proofs.Common.{◌≡◌, ℕ, ◌<◌, ◌≤◌, Bool, true, false, cond, eqb, leb, List, [], ◌∷◌, length, ℤ, Some, None}
use Rattle.std.proofs.Common.{Ok, Err, Option, Result, sym, refl, ap, ◌∙◌, arith, Bor}
use Rattle.std.proofs.lemmas.Bool.{eqb-true, eqb-false, leb-true}
use Rattle.std.specs.List.{concat}
use Rattle.anystr.specs.Indices.{start_of, end_of}
use Rattle.anystr.specs.Limits.{most_bytes}
use Rattle.anystr.specs.OfBytes.{singles, concat-singles}
use Rattle.anystr.specs.Refusals.{coded}
use Rattle.anystr.specs.declared.bytes.Bytes.{Bytes}
use Rattle.anystr.specs.declared.refusal.Refusal.{Refusal}
use Rattle.bytesinner.specs.declared.finds.either.Either.{Either}
use Rattle.bytesinner.specs.declared.finds.either.Either.TheVariants.{A, B}
use Rattle.bytesinner.specs.declared.finds.options.ByteInnerFindOptions.{ByteInnerFindOptions}
use Rattle.bytesinner.specs.declared.finds.stretch.Stretch.{Stretch}
use Rattle.bytesinner.specs.finds.Asked.{byte_of, byte_needle, sub_of, for_needle, answer_in, answer_of, Target, target}
use Rattle.bytesinner.specs.finds.Asked.{Kept, Keeps, Meant}

-- an end that is meant is within the text
pub end-within : (end : Option ℤ) (len : ℕ) → end_of end len ≤ len
end-within None len = omega arith
end-within (Some i) len = omega arith

-- a needle of one byte is not too long
byte_needle-short : (r : Result ℕ (ℕ × ℕ)) (n : List ℕ) → byte_needle r ≡ Ok n → length n ≤ most_bytes
byte_needle-short (Ok b) n e = let one : n ≡ b ∷ [] = cc in omega (arith, ap length one)
byte_needle-short (Err c) n e = cc

-- nor is any that is meant
sub_of-short : (s : Either (Bor (List ℕ)) ℤ) (n : List ℕ) → sub_of s ≡ Ok n → length n ≤ most_bytes
sub_of-short (A bytes) n e = by (leb (length bytes.now) most_bytes) refl e
  where
    by : (t : Bool) → leb (length bytes.now) most_bytes ≡ t
        → cond {A = Result (List ℕ) (ℕ × ℕ)} t (Ok bytes.now) (Err (6, 0)) ≡ Ok n → length n ≤ most_bytes
    by true t e =
        let same : n ≡ bytes.now = cc in omega (arith, ap length same, leb-true (length bytes.now) most_bytes t)
    by false t e = cc
sub_of-short (B number) n e = byte_needle-short (byte_of number) n e

-- the needle and the offsets in an answer that is not refused
read_back : (o : ByteInnerFindOptions) (len : ℕ) (n : List ℕ) (a b : ℕ) (s : Result (List ℕ) (ℕ × ℕ)) → sub_of o.sub ≡ s
    → Ok (target n a b) ≡ for_needle (λ m. target m (start_of o.start len) (end_of o.end len)) s
    → (sub_of o.sub ≡ Ok n) × (a ≡ start_of o.start len) × (b ≡ end_of o.end len)
read_back o len n a b (Ok m) is e =
    let all : target n a b ≡ target m (start_of o.start len) (end_of o.end len) = cc in
    (is ∙ ap Ok (ap (λ (v : Target). v.0) (sym all)), ap (λ (v : Target). v.1) all, ap (λ (v : Target). v.2) all)
read_back o len n a b (Err c) is e = cc

-- the needle and the offsets that are read from options, where the text has `len` bytes
module _ (o : ByteInnerFindOptions) (bs needle : List ℕ) (len a b : ℕ)
    (e : Ok (target needle a b) ≡ answer_in target o len) (size : len ≡ length (concat (singles bs))) where
  from_options : (sub_of o.sub ≡ Ok needle) × (a ≡ start_of o.start (length bs)) × (b ≡ end_of o.end (length bs))
  from_options =
      read_back o (length bs) needle a b (sub_of o.sub) refl
      (e ∙ ap (answer_in target o) (size ∙ ap length (concat-singles bs)))

  -- the end is within the text
  pub offset-within : b ≤ length bs
  offset-within = omega (arith, from_options.2, end-within o.end (length bs))

-- the text that is made of a needle's bytes has them
pub meant : (o : ByteInnerFindOptions) (text : Bytes) (stretch : Stretch) (needle given made : List ℕ) (len : ℕ)
    → stretch.text ≡ text → Ok (target needle stretch.range.start stretch.range.end) ≡ answer_in target o len
    → len ≡ length (concat (singles text.bytes.now)) → given ≡ needle
    → (length given ≤ most_bytes → singles made ≡ singles given) → Meant o text stretch made
meant o text stretch needle given made len whole e size is new =
    let m = from_options o text.bytes.now needle len stretch.range.start stretch.range.end e size in
    let short : length given ≤ most_bytes = omega (arith, ap length is, sub_of-short o.sub needle m.0) in
    let same = sym (sym (concat-singles made) ∙ (ap concat (new short) ∙ (concat-singles given ∙ is))) in
    record { whole = whole; sub = m.0 ∙ ap Ok same; start = m.1; end = m.2 }

-- an answer by its rule, and a rule by its answer
module _ {X : Type 0} (f : List ℕ → List ℕ → ℕ → ℕ → X) (rule : List ℕ → List ℕ → ℕ → ℕ → X → Type 0) (bs : List ℕ)
    (o : ByteInnerFindOptions) where
  abbrev start : ℕ
  start = start_of o.start (length bs)

  abbrev end : ℕ
  end = end_of o.end (length bs)

  pub answers : ((n : List ℕ) (a b : ℕ) (x : X) → b ≤ length bs → rule bs n a b x → x ≡ f bs n a b)
      → (r : Result X Refusal) → Keeps rule bs o r → coded r ≡ answer_of f bs o
  answers is r keeps = by (sub_of o.sub) r keeps
    where
      by : (s : Result (List ℕ) (ℕ × ℕ)) (r : Result X Refusal) → Kept (λ n. rule bs n start end) s r
          → coded r ≡ for_needle (λ n. f bs n start end) s
      by (Ok n) (Ok x) k = ap Ok (is n _ _ x (end-within o.end (length bs)) k)
      by (Ok n) (Err e) k = absurd k
      by (Err c) (Ok x) k = absurd k
      by (Err c) (Err e) k = ap Err k

  pub keeps : ((n : List ℕ) (a b : ℕ) (x : X) → b ≤ length bs → x ≡ f bs n a b → rule bs n a b x)
      → (r : Result X Refusal) → coded r ≡ answer_of f bs o → Keeps rule bs o r
  keeps holds r answers = by (sub_of o.sub) r answers
    where
      by : (s : Result (List ℕ) (ℕ × ℕ)) (r : Result X Refusal) → coded r ≡ for_needle (λ n. f bs n start end) s
          → Kept (λ n. rule bs n start end) s r
      by (Ok n) (Ok x) e = holds n _ _ x (end-within o.end (length bs)) cc
      by (Ok n) (Err c) e = cc
      by (Err c) (Ok x) e = cc
      by (Err c) (Err d) e = cc

-- a text of bytes that is told not to be empty, and one that is told to be
pub some : (n : List ℕ) → false ≡ eqb (length (concat (singles n))) 0 → 0 < length n
some n e =
    let other = eqb-false (length (concat (singles n))) 0 (sym e) in
    let same = ap length (concat-singles n) in
    omega arith

pub none : (n : List ℕ) → true ≡ eqb (length (concat (singles n))) 0 → length n ≡ 0
none n e = sym (ap length (concat-singles n)) ∙ eqb-true (length (concat (singles n))) 0 (sym e)
