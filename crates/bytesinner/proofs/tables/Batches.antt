-- A text that is mapped and pushed batch by batch.
use Rattle.std.proofs.Common.{◌≡◌, ℕ, ◌≤◌, not, List, ◌++◌, map, length, Ok, Result, sym, ap, ◌∙◌}
use Rattle.std.specs.List.{concat}
use Rattle.std.proofs.lemmas.List.{map-append}
use Rattle.std.proofs.lemmas.List.Elements.{filter-append}
use Rattle.anystr.specs.Limits.{most_bytes}
use Rattle.anystr.specs.OfBytes.{singles, concat-singles}
use Rattle.trays.specs.Trays.{Contents, IsFilled}
use Rattle.cutters.proofs.Pouring.{Pouring, took_next}
use Rattle.bytesinner.specs.tables.Entries.{image_in, is_gone_in, images_in}
use Rattle.bytesinner.specs.tables.Translations.{kept_bytes}

-- the images of two stretches are those of the one and then those of the other
pub images_in-append : (cells xs ys : List ℕ) → images_in cells (xs ++ ys) ≡ images_in cells xs ++ images_in cells ys
images_in-append cells xs ys =
    let gone = is_gone_in cells in
    ap (map (image_in cells)) (filter-append (λ b. not (gone b)) xs ys)
    ∙ map-append (image_in cells) (kept_bytes gone xs) (kept_bytes gone ys)

-- a push of the images of the next part, where those of two stretches are so
pub batch_pushed : {X : Type 0} (images : List ℕ → List ℕ)
    → ((xs ys : List ℕ) → images (xs ++ ys) ≡ images xs ++ images ys)
    → (part rest batch : List ℕ) {left : List ℕ} {text : List (List ℕ)} {tray full : Contents} (tray' : Contents)
    (r : Result X (ℕ × ℕ)) → left ≡ part ++ rest → batch ≡ images part → length batch ≤ most_bytes
    → (length batch ≤ most_bytes → text ≡ singles batch) → Pouring tray (images left) full
    → IsFilled (Ok (concat text)) tray tray' r → Pouring tray' (images rest) full
batch_pushed images parts part rest batch tray' r split mapped few given poured push =
    let sent = ap concat (given few) ∙ (concat-singles batch ∙ mapped) in
    let next = ap images split ∙ (parts part rest ∙ ap (λ xs. xs ++ images rest) (sym sent)) in
    took_next _ (images rest) tray' r next poured push
