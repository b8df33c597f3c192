use Rattle.std.proofs.Common.{◌≡◌, ◌+◌, true, length}
use Rattle.bytesinner.specs.words.Starts.{starts}
use Rattle.bytesinner.proofs.words.count.count_words.Given as goal

-- the words that begin so far and those that begin in the rest are all of them
abbrev pub invariant-loop-rest : goal.invariant-loop-rest
invariant-loop-rest l = l.total + starts l.behind l.rest ≡ starts true l.bytes

abbrev pub decreases-loop-rest : goal.decreases-loop-rest
decreases-loop-rest l = length l.rest
