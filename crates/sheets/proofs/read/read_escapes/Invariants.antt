use Rattle.std.proofs.Common.{◌≡◌, length, vec_items}
use Rattle.sheets.specs.Escapes.{before, unescaped}
use Rattle.sheets.proofs.read.read_escapes.Given as goal

-- the bytes that are read, before those that the rest names, are those of the word
abbrev pub invariant-loop-first : goal.invariant-loop-first
invariant-loop-first l = before (vec_items l.bytes) (unescaped l.rest) ≡ unescaped l.fn.word

abbrev pub decreases-loop-first : goal.decreases-loop-first
decreases-loop-first l = length l.rest
