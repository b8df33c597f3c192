use Rattle.std.proofs.Common.{◌≡◌, ◌+◌, ◌≤◌, drop}
use Rattle.bytesinner.specs.words.Starts.{starts, ends_space}
use Rattle.bytesinner.proofs.words.count.starts_in.Given as goal

-- the words that begin so far and those that begin later are all of them
abbrev pub invariant-loop-byte : goal.invariant-loop-byte
invariant-loop-byte l = record {
  few : l.words ≤ l.byte-index;
  counted : l.words + starts l.at_space (drop l.byte-index l.batch) ≡ starts l.behind l.batch;
  last : ends_space l.at_space (drop l.byte-index l.batch) ≡ ends_space l.behind l.batch;
}
