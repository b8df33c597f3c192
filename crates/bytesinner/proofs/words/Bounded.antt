-- The lists that a bound makes of the runs, as they are written.
use Rattle.std.proofs.Common.{◌≡◌, ℕ, zero, suc, ◌+◌, ◌-◌, ◌<◌, ◌≤◌, min, Bool, true, false, ltb, List, [], ◌∷◌, ◌++◌}
use Rattle.std.proofs.Common.{length, get_or}
use Rattle.std.proofs.Common.{take, drop, set, ℤ, pos, negsuc, Ok, Err, Result, sym, refl, ap, ◌∙◌, subst, ⊎_elim}
use Rattle.std.proofs.Common.{arith, length-drop, length-take, w64, SFits, to_z, of_z}
use Rattle.std.specs.Prelude.{if◌then◌else◌, nat_le}
use Rattle.std.proofs.lemmas.List.{take_all, drop-set-lt, length-map, take-append-le, drop-append-le, take-append-drop}
use Rattle.std.proofs.lemmas.Bool.{lt-ltb, le-ltb, cases_lt, cond-true, cond-false}
use Rattle.std.proofs.lemmas.Int.{to_z-of_z}
use Rattle.anystr.specs.Places.{stretch, stretches, Lists}
use Rattle.anystr.specs.declared.place.Place.{Place}
use Rattle.searchers.specs.Marks.{Span}
use Rattle.cutters.specs.pieces.Sources.{Filled}
use Rattle.bytesinner.specs.words.Words.{lone_count, to_end, from_start, first_words, last_words}

-- no more stay than there are
pub lone_count-within : (total : ℕ) (bound : ℤ) → lone_count total bound ≤ total
lone_count-within total (pos b) = omega arith
lone_count-within total (negsuc b) = omega arith

-- widening the last or the first keeps their number
length-to_end : (len : ℕ) (rs : List Span) → length (to_end len rs) ≡ length rs
length-to_end len [] = refl
length-to_end len (r ∷ []) = refl
length-to_end len (r ∷ s ∷ rs) = ap suc (length-to_end len (s ∷ rs))

length-from_start : (rs : List Span) → length (from_start rs) ≡ length rs
length-from_start [] = refl
length-from_start (r ∷ rs) = refl

-- what a list past its end is read as
abbrev none : Place
none = record { start = 0; end = 0 }

-- the place of index a in a list, gone on to `len`; and the first, begun at 0
abbrev longer : List Place → (a len : ℕ) → Place
longer list a len = record { start = (get_or list a none).start; end = len }

abbrev earlier : List Place → Place
earlier list = record { start = 0; end = (get_or list 0 none).end }

-- the last place that is written goes on to `len`
set_end : (list : List Place) (a len : ℕ) → a < length list
    → stretches (take (suc a) (set list a (longer list a len))) ≡ to_end len (stretches (take (suc a) list))
set_end [] a len lt = absurd (omega arith)
set_end (x ∷ xs) zero len lt = refl
set_end (x ∷ []) (suc a) len lt = absurd (omega arith)
set_end (x ∷ y ∷ ys) (suc a) len lt =
    ap {B = List Span} (λ rs. (x.start, x.end) ∷ rs) (set_end (y ∷ ys) a len (omega arith))

-- the first place begins at 0
set_start : (list : List Place) (a : ℕ) → 0 < length list
    → stretches (take (suc a) (set list 0 (earlier list))) ≡ from_start (stretches (take (suc a) list))
set_start [] a lt = absurd (omega arith)
set_start (x ∷ xs) a lt = refl

-- a list whose first entries were written from another list of stretches
lists : (ps : List Span) (list list' : List Place) (n : ℕ) → n ≡ length ps → n ≤ length list
    → stretches (take n list') ≡ ps → drop n list' ≡ drop n list → Lists (Ok ps) list list' (Ok n)
lists ps list list' n is fits written others = (is, omega arith, written, others)

-- the same by what was written, for a number of pieces that came
record Put (ps : List Span) (n : ℕ) (list list' : List Place) : Type 0 where
  written : stretches (take n list') ≡ ps
  others : drop n list' ≡ drop n list
  within : n ≤ length list'

put : (ps : List Span) (n : ℕ) (list list' : List Place) → length ps ≡ n → Filled ps list list' → Put ps n list list'
put ps n list list' l f =
    let w : stretches (take n list') ≡ ps = subst (λ (k : ℕ). stretches (take k list') ≡ ps) l f.written in
    record {
      written = w;
      others = subst (λ (k : ℕ). drop k list' ≡ drop k list) l f.others;
      within = omega (arith, ap length w, length-map (take n list') stretch, length-take n list');
    }

-- the number of the places that are wanted: of all the runs, those that stay and one more
pub record Wanted (rs : List Span) (bound : ℤ) (total a m : ℕ) : Type 0 where
  pub total_is : total ≡ length rs
  pub alone_is : a ≡ lone_count total bound
  pub is : m ≡ min total (a + 1)

-- as the calls count them
pub wanted : {rs : List Span} {bound : ℤ} {total a m : ℕ} → total ≡ length rs → SFits w64 bound
    → a ≡ lone_count total (to_z w64 (of_z w64 bound)) → m ≡ min total (a + 1) → Wanted rs bound total a m
wanted {total = total} t fits a m =
    record { total_is = t; alone_is = a ∙ ap (lone_count total) (to_z-of_z w64 _ fits); is = m }

-- the room that was given in a list
pub record Given (m n : ℕ) (list : List Place) : Type 0 where
  pub is : n ≡ m
  pub fits : m ≤ length list

-- a call that passes gives it
given : {m n : ℕ} (list : List Place)
    → ◌≡◌ {A = Result ℕ (ℕ × ℕ)} (Ok n) (if nat_le m (length list) then Ok m else Err (7, m)) → Given m n list
given list is = record { is = grind arith; fits = grind arith }

-- what was written into the front of a list was written into the list
filled-front : {xs ys : List Span} {m n : ℕ} {list part : List Place} → Given m n list → xs ≡ ys
    → length part ≡ length (take n list) → Filled (take (length (take n list)) xs) (take n list) part
    → Filled (take n ys) list (part ++ drop n list)
filled-front {xs} {ys} {m} {n} {list} {part} room same l f =
    let t : length (take n list) ≡ n = length-take n list ∙ omega (arith, room.is, room.fits) in
    let ps : List Span = take (length (take n list)) xs in
    let few : length ps ≤ length part = omega (arith, length-take (length (take n list)) xs) in
    let written = take-append-le (length ps) part (drop n list) few in
    let others = drop-append-le (length ps) part (drop n list) few in
    let front = drop-append-le (length ps) (take n list) (drop n list) (omega arith) in
    let parted = ap (drop (length ps)) (take-append-drop n list) in
    let whole : Filled ps list (part ++ drop n list) = record {
      written = ap stretches written ∙ f.written;
      others = others ∙ ap (λ (ys : List Place). ys ++ drop n list) f.others ∙ sym front ∙ parted;
    } in
    subst (λ (qs : List Span). Filled qs list (part ++ drop n list)) (λ i. take (t i) (same i)) whole

-- what both calls have done before a place is widened: the runs are written that are wanted, in the room that was given
pub record Begun (rs : List Span) (bound : ℤ) (total a m n : ℕ) (ys : List Span) (list list' : List Place)
    : Type 0 where
  pub shares : Wanted rs bound total a m
  pub room : Given m n list
  pub filled : Filled (take n ys) list list'

pub begun : {rs xs ys : List Span} {bound : ℤ} {total a m n : ℕ} {list part : List Place} → total ≡ length rs
    → SFits w64 bound → a ≡ lone_count total (to_z w64 (of_z w64 bound)) → m ≡ min total (a + 1)
    → ◌≡◌ {A = Result ℕ (ℕ × ℕ)} (Ok n) (if nat_le m (length list) then Ok m else Err (7, m))
    → xs ≡ ys → length part ≡ length (take n list) → Filled (take (length (take n list)) xs) (take n list) part
    → Begun rs bound total a m n ys list (part ++ drop n list)
begun {list = list} t fits alone places is same l f =
    let room = given list is in
    record { shares = wanted t fits alone places; room = room; filled = filled-front room same l f }

module _ {rs : List Span} {bound : ℤ} {total a m : ℕ} (w : Wanted rs bound total a m) where
  stay : lone_count (length rs) bound ≡ a
  stay = ap (λ (t : ℕ). lone_count t bound) (sym w.total_is) ∙ sym w.alone_is

  few : a ≤ total
  few = omega (arith, w.alone_is, lone_count-within total bound)

  -- whether there are more runs than those that stay
  abbrev more : Bool
  more = ltb (lone_count (length rs) bound) (length rs)

  none_more : total ≤ a → more ≡ false
  none_more le = le-ltb _ _ (omega (arith, stay, w.total_is))

  some_more : a < total → more ≡ true
  some_more lt = lt-ltb _ _ (omega (arith, stay, w.total_is))

  module _ (len : ℕ) where
    words_whole : total ≤ a → first_words rs len bound ≡ rs
    words_whole le = cond-false more _ _ (none_more le)

    words_cut : a < total → first_words rs len bound ≡ to_end len (take (suc a) rs)
    words_cut lt = cond-true more _ _ (some_more lt) ∙ ap (λ (k : ℕ). to_end len (take (suc k) rs)) stay

    pub words_length : length (first_words rs len bound) ≡ m
    words_length =
        let taken = length-to_end len (take (suc a) rs) ∙ length-take (suc a) rs in
        ⊎_elim
        (λ lt. ap length (words_cut lt) ∙ taken ∙ omega (arith, w.is, w.total_is))
        (λ le. ap length (words_whole le) ∙ omega (arith, w.is, w.total_is, few))
        (cases_lt a total)

  -- the runs that stay and the one before them
  abbrev last_runs : List Span
  last_runs = drop (length rs - suc a) rs

  rwords_whole : total ≤ a → last_words rs bound ≡ rs
  rwords_whole le = cond-false more _ _ (none_more le)

  rwords_cut : a < total → last_words rs bound ≡ from_start last_runs
  rwords_cut lt = cond-true more _ _ (some_more lt) ∙ ap (λ (k : ℕ). from_start (drop (length rs - suc k) rs)) stay

  pub rwords_length : length (last_words rs bound) ≡ m
  rwords_length =
      let left = length-from_start last_runs ∙ length-drop (length rs - suc a) rs in
      ⊎_elim
      (λ lt. ap length (rwords_cut lt) ∙ left ∙ omega (arith, w.is, w.total_is))
      (λ le. ap length (rwords_whole le) ∙ omega (arith, w.is, w.total_is, few))
      (cases_lt a total)

  module _ {list : List Place} {n : ℕ} (room : Given m n list) where
    n_is : n ≡ min total (a + 1)
    n_is = room.is ∙ w.is

    fits : n ≤ length list
    fits = omega (arith, room.is, room.fits)

    -- all the runs
    all_put : {list' : List Place} (ps qs : List Span) → total ≤ a → ps ≡ rs → qs ≡ rs → Filled (take n qs) list list'
        → Lists (Ok ps) list list' (Ok n)
    all_put {list'} ps qs le are same f =
        let l : length rs ≡ n = omega (arith, n_is, w.total_is) in
        let all : take n qs ≡ rs = ap (take n) same ∙ take_all n rs (omega (arith, l)) in
        let c = put rs n list list' l (subst (λ (xs : List Span). Filled xs list list') all f) in
        lists ps list list' n (sym l ∙ ap length (sym are)) fits (c.written ∙ sym are) c.others

    pub words_put : (len : ℕ) {list' : List Place} → total ≤ a → Filled (take n rs) list list'
        → Lists (Ok (first_words rs len bound)) list list' (Ok n)
    words_put len le f = all_put _ rs le (words_whole len le) refl f

    pub rwords_put : {list' : List Place} → total ≤ a → Filled (take n (drop (total - n) rs)) list list'
        → Lists (Ok (last_words rs bound)) list list' (Ok n)
    rwords_put le f =
        let z : total - n ≡ 0 = omega (arith, n_is) in
        all_put _ _ le (rwords_whole le) (ap (λ (k : ℕ). drop k rs) z) f

    -- some of them, and one place more
    module _ (lt : a < total) where
      one_more : n ≡ suc a
      one_more = omega (arith, n_is)

      -- the first n entries of a list, which are one more than stay
      as_one_more : (list' : List Place) → stretches (take n list') ≡ stretches (take (suc a) list')
      as_one_more list' = ap (λ (k : ℕ). stretches (take k list')) one_more

      to_len : (len : ℕ) {list' : List Place} → Filled (take n rs) list list'
          → Lists (Ok (first_words rs len bound)) list (set list' a (longer list' a len)) (Ok n)
      to_len len {list'} f =
          let last = longer list' a len in
          let long = length-take n rs ∙ omega (arith, n_is, w.total_is) in
          let c : Put (take n rs) n list list' = put (take n rs) n list list' long f in
          let set_last = set_end list' a len (omega (arith, c.within, one_more)) in
          let runs = c.written ∙ ap (λ (k : ℕ). take k rs) one_more in
          let words = ap (to_end len) (sym (as_one_more list') ∙ runs) ∙ sym (words_cut len lt) in
          lists (first_words rs len bound) list (set list' a last) n (room.is ∙ sym (words_length len)) fits
          (as_one_more (set list' a last) ∙ set_last ∙ words)
          (drop-set-lt n list' a last (omega (arith, one_more)) ∙ c.others)

      pub words_put_cut : (end len : ℕ) {list' : List Place} → end ≡ len → Filled (take n rs) list list'
          → Lists (Ok (first_words rs len bound)) list (set list' a (longer list' a end)) (Ok n)
      words_put_cut end len {list'} is f =
          let P : ℕ → Type 0 =
          λ k. Lists (Ok (first_words rs len bound)) list (set list' a (longer list' a k)) (Ok n) in
          subst P (sym is) (to_len len f)

      pub rwords_put_cut : {list' : List Place} → Filled (take n (drop (total - n) rs)) list list'
          → Lists (Ok (last_words rs bound)) list (set list' 0 (earlier list')) (Ok n)
      rwords_put_cut {list'} f =
          let first = earlier list' in
          let which : drop (total - n) rs ≡ last_runs = λ i. drop (w.total_is i - one_more i) rs in
          let long : length last_runs ≡ n =
          length-drop (length rs - suc a) rs ∙ omega (arith, one_more, w.total_is) in
          let runs = ap (take n) which ∙ take_all n _ (omega (arith, long)) in
          let c = put last_runs n list list' long (subst (λ (ps : List Span). Filled ps list list') runs f) in
          let set_first = set_start list' a (omega (arith, c.within, one_more)) in
          let words = ap from_start (sym (as_one_more list') ∙ c.written) ∙ sym (rwords_cut lt) in
          lists (last_words rs bound) list (set list' 0 first) n (room.is ∙ sym rwords_length) fits
          (as_one_more (set list' 0 first) ∙ set_first ∙ words)
          (drop-set-lt n list' 0 first (omega (arith, one_more)) ∙ c.others)
