-- Parts of a text, by its elements and by its bytes.
use Rattle.std.proofs.Common.{◌≡◌, ℕ, ◌+◌, ◌-◌, ◌≤◌, List, ◌++◌, length, take, drop, sym, refl, ap, ◌∙◌}
use Rattle.std.proofs.Common.{append_assoc, arith, length-append, length-drop, take-append-drop, length-take, take-add}
use Rattle.std.proofs.lemmas.List.Folds.{concat-append}
use Rattle.std.proofs.lemmas.List.{take_at, drop_at, length-take-le}
use Rattle.std.specs.List.{concat}
use Rattle.anystr.specs.Elements.{Part}
use Rattle.anystr.specs.OfBytes.{singles, concat-singles}
use Rattle.anystr.specs.Places.{part}
use Rattle.anystr.proofs.Boundaries.{cut-joined}
use Rattle.anystr.proofs.Singles.{singles-append}

-- the bytes of a part are those from its start to its end
pub concat-part : (es ps : List (List ℕ)) (a b : ℕ) → Part es ps a b → concat ps ≡ part (concat es) (a, b)
concat-part es ps a b p =
    ap concat p.is ∙ sym (ap (λ l. part l (a, b)) all ∙ ap (take (b - a)) (drop_at front (bytes ++ rest) a p.start)
    ∙ take_at bytes rest (b - a) size)
  where
    count : ℕ
    count = p.to - p.from

    later : List (List ℕ)
    later = drop p.from es

    front : List ℕ
    front = concat (take p.from es)

    bytes : List ℕ
    bytes = concat (take count later)

    rest : List ℕ
    rest = concat (drop count later)

    all : concat es ≡ front ++ (bytes ++ rest)
    all = cut-joined p.from es ∙ ap (λ l. front ++ l) (cut-joined count later)

    to : p.to ≡ p.from + count
    to = omega (arith, p.order)

    both : length (concat (take p.to es)) ≡ length (front ++ bytes)
    both =
        ap (λ k. length (concat (take k es))) to ∙ ap (λ l. length (concat l)) (take-add p.from count es)
        ∙ ap length (concat-append (take p.from es) (take count later))

    size : length bytes ≡ b - a
    size = omega (arith, both, length-append front bytes, p.start, p.end)

-- the elements in the middle of a text are a part of it
pub part-from_split : (es f m r : List (List ℕ)) (a b : ℕ) → es ≡ f ++ (m ++ r)
    → length (concat f) ≡ a → a + length (concat m) ≡ b → Part es m a b
part-from_split es f m r a b e la lb = record {
  from = length f;
  to = length f + length m;
  order = omega arith;
  start = ap (λ xs. length (concat xs)) (ap (take (length f)) e ∙ take_at f (m ++ r) (length f) refl) ∙ la;
  end = ap (λ xs. length (concat xs)) both ∙ ap length (concat-append f m) ∙ long;
  is = sym (ap (take count) (ap (drop (length f)) e ∙ drop_at f (m ++ r) (length f) refl) ∙ take_at m r count same);
}
  where
    long : length (concat f ++ concat m) ≡ b
    long = omega (arith, la, lb, length-append (concat f) (concat m))

    count : ℕ
    count = (length f + length m) - length f

    same : length m ≡ count
    same = omega arith

    both : take (length f + length m) es ≡ f ++ m
    both =
        ap (take (length f + length m)) (e ∙ sym (append_assoc f m r))
        ∙ take_at (f ++ m) r (length f + length m) (length-append f m)

-- what lies before, between and after two offsets
pub split : (bs : List ℕ) (a b : ℕ) → bs ≡ take a bs ++ (take (b - a) (drop a bs) ++ drop (b - a) (drop a bs))
split bs a b = sym (ap (λ r. take a bs ++ r) (take-append-drop (b - a) (drop a bs)) ∙ take-append-drop a bs)

-- where the bytes between two offsets end
pub size : (bs : List ℕ) (a b : ℕ) → a ≤ b → b ≤ length bs → a + length (take (b - a) (drop a bs)) ≡ b
size bs a b o w = omega (arith, length-take (b - a) (drop a bs), length-drop a bs)

-- the elements from one offset to another are the bytes between
pub part-singles : (bs : List ℕ) (a b : ℕ) → a ≤ b → b ≤ length bs
    → Part (singles bs) (singles (take (b - a) (drop a bs))) a b
part-singles bs a b o w =
    let f = take a bs in
    let m = take (b - a) (drop a bs) in
    let r = drop (b - a) (drop a bs) in
    part-from_split (singles bs) (singles f) (singles m) (singles r) a b
    (ap singles (split bs a b) ∙ (singles-append f (m ++ r) ∙ ap (λ l. singles f ++ l) (singles-append m r)))
    (ap length (concat-singles f) ∙ length-take-le a bs (omega arith))
    (ap (λ l. a + length l) (concat-singles m) ∙ size bs a b o w)
