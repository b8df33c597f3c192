-- The result of translate: what is made of the text by the table or the entries, and its laws.
use Rattle.std.proofs.Common.{◌≡◌, ℕ, suc, ◌<◌, Bool, true, false, List, [], ◌∷◌, map, get_or, slice_index}
use Rattle.std.proofs.Common.{None, Ok, Err, Result, refl, sym, ap, ◌∙◌, arith}
use Rattle.std.proofs.lemmas.List.{length-map, get_or-map, map-id}
use Rattle.anystr.specs.declared.refusal.Refusal.{Refusal}
use Rattle.searchers.specs.bytesets.Sets.{among}
use Rattle.trays.specs.Trays.{Contents, Fills}
use Rattle.bytesinner.specs.declared.tables.translate.ByteInnerTranslateOptions.{ByteInnerTranslateOptions}
use Rattle.bytesinner.specs.tables.Tables.{byte_values, Appends}
use Rattle.bytesinner.specs.tables.Translations.{image, is_full, kept_bytes, table_in, delete_in, kept_images}
use Rattle.bytesinner.specs.tables.Translations.{translate_of, Meant, InPlace, Without}
use Rattle.bytesinner.specs.tables.Entries.{AreEntries, is_gone_in, images_in}
use Rattle.bytesinner.proofs.tables.Counts.{count_kept}
use Rattle.bytesinner.proofs.tables.Deleted.{EntriesOf, gone-is, image-is}

-- where none is to go, all are kept
kept_bytes-all : (xs : List ℕ) → kept_bytes (among []) xs ≡ xs
kept_bytes-all [] = refl
kept_bytes-all (x ∷ xs) = ap (λ r. x ∷ r) (kept_bytes-all xs)

-- what agrees on bytes, of which go and of the images of those that stay, makes the same of them
map-alike : (f g : ℕ → ℕ) (gone gone' : ℕ → Bool) (bytes : List ℕ) → ((i : ℕ) → get_or bytes i 0 < byte_values)
    → ((b : ℕ) → b < byte_values → gone b ≡ gone' b) → ((b : ℕ) → b < byte_values → gone' b ≡ false → f b ≡ g b)
    → map f (kept_bytes gone bytes) ≡ map g (kept_bytes gone' bytes)
map-alike f g gone gone' [] fit go same = refl
map-alike f g gone gone' (x ∷ bytes) fit go same =
    grind (arith, map-alike f g gone gone' bytes (λ i. fit (suc i)) go same, go x (fit 0), same x (fit 0))

-- what the code makes of the bytes of a text is what the options mean
module _ (options : ByteInnerTranslateOptions) (table delete bytes text : List ℕ) (meant : Meant options table delete)
    (fit : (i : ℕ) → get_or bytes i 0 < byte_values) (is : bytes ≡ text) where
  all-kept : map (image (table_in options)) (kept_bytes (among delete) bytes) ≡ kept_images options text
  all-kept = λ i. map (image (table_in options)) (kept_bytes (among (meant.goes i)) (is i))

  -- where none is deleted
  pub images-all : delete ≡ [] → map (slice_index table) bytes ≡ kept_images options text
  images-all none =
      let all : kept_bytes (among delete) bytes ≡ bytes = rw none (kept_bytes-all bytes) in
      let gone = among delete in
      let same = map-alike _ _ gone gone bytes fit (λ b h. refl) (λ b h _. meant.maps b h) in
      ap (map (slice_index table)) (sym all) ∙ (same ∙ all-kept)

  -- by the entries
  pub images-kept : (entries : List ℕ) → EntriesOf entries (image (table_in options)) delete → AreEntries entries
      → images_in entries bytes ≡ kept_images options text
  images-kept entries made small =
      let f = image (table_in options) in
      let go = gone-is entries f delete made small in
      map-alike _ f (is_gone_in entries) (among delete) bytes fit go (image-is entries f delete made small) ∙ all-kept

-- where no byte is deleted each stands in its place
pub undeleted : (options : ByteInnerTranslateOptions) (text : List ℕ) → delete_in options ≡ []
    → InPlace options text (kept_images options text)
undeleted options text e =
    let f = image (table_in options) in
    rw (e, kept_bytes-all text) record { long = length-map text f; maps = λ i h. get_or-map f text i 0 0 h }

-- without a table the bytes that are kept stand as often as before
pub unmapped : (options : ByteInnerTranslateOptions) (text : List ℕ) → table_in options ≡ None
    → Without options text (kept_images options text)
unmapped options text e b =
    let gone = among (delete_in options) in
    rw (e, map-id (kept_bytes gone text)) (count_kept gone b text)

-- a tray that is filled with bytes gained them, or the call was refused
appended : {Tray X : Type 0} (contents : Tray → Contents) (P : List ℕ → Type 0) (bytes : List ℕ) (tray tray' : Tray)
    (r : Result X Refusal) → P bytes → Fills contents (Ok bytes) tray tray' r → Appends contents tray tray' P r
appended contents P bytes tray tray' (Ok _) holds filled = (bytes, filled.1, holds)
appended contents P bytes tray tray' (Err _) holds filled = tt

-- a tray that is filled with what the options mean is filled as translate promises, and its laws hold
module _ {Tray X : Type 0} (contents : Tray → Contents) (options : ByteInnerTranslateOptions) (text images : List ℕ)
    (tray tray' : Tray) (r : Result X Refusal) (long : is_full (table_in options) ≡ true)
    (is : images ≡ kept_images options text) (filled : Fills contents (Ok images) tray tray' r) where
  filled-so : Fills contents (Ok (kept_images options text)) tray tray' r
  filled-so = rw is at filled

  pub record Promised : Type 0 where
    pub fills : Fills contents (translate_of options text) tray tray' r
    pub place : delete_in options ≡ [] → Appends contents tray tray' (InPlace options text) r
    pub gone : table_in options ≡ None → Appends contents tray tray' (Without options text) r

  pub translated : Promised
  translated = record {
    fills = rw long filled-so;
    place = λ e. appended contents _ _ tray tray' r (undeleted options text e) filled-so;
    gone = λ e. appended contents _ _ tray tray' r (unmapped options text e) filled-so;
  }
