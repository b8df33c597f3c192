use Rattle.std.proofs.Common.{length}
use Rattle.bytesinner.proofs.tables.translate.+map_words.Given as goal

-- the bytes left
abbrev pub decreases-map_words : goal.decreases-map_words
decreases-map_words l = length l.bytes.now
