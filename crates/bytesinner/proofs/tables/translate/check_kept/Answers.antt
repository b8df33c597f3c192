use Rattle.std.proofs.Common.{ℕ, Bool, not, arith}
use Rattle.std.proofs.lemmas.List.{length-map}
use Rattle.std.proofs.lemmas.List.Sums.{length-filter, count_by-le-length}
use Rattle.bytesinner.specs.tables.Entries.{image_in, is_gone_in}
use Rattle.bytesinner.specs.tables.Translations.{kept_bytes}
use Rattle.bytesinner.proofs.tables.translate.check_kept.Goals as goal

-- no more bytes stay than there are
pub returns-then-bytes-free : goal.returns-then-bytes-free
returns-then-bytes-free g c =
    let cells = c.args.entries.now.cells in
    let bytes = c.args.bytes.now in
    let stays : ℕ → Bool = λ b. not (is_gone_in cells b) in
    let images = length-map (kept_bytes (is_gone_in cells) bytes) (image_in cells) in
    omega (arith, images, length-filter stays bytes, count_by-le-length stays bytes)
