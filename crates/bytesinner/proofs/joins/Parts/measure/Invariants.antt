use Rattle.std.proofs.Common.{◌≡◌, ◌+◌, length, drop}
use Rattle.anystr.specs.Places.{stretches}
use Rattle.anystr.specs.Texts.{bytes_of}
use Rattle.bytesinner.specs.joins.Joins.{first_bad}
use Rattle.bytesinner.specs.joins.Parts.{bad_part, joined_parts}
use Rattle.bytesinner.proofs.joins.Joining.{bare}
use Rattle.bytesinner.proofs.joins.Parts.measure.Given as goal

-- the places so far are good, and the bytes so far and those of the parts left are the bytes of all
abbrev pub invariant-loop-index : goal.invariant-loop-index
invariant-loop-index g l = record {
  good : first_bad (g.S.AnyStr.elements l.self.text) l.index-counter (stretches (drop l.index-counter l.place-items))
      ≡ bad_part l.self;
  counted : l.sum + bare (bytes_of g.S.AnyStr l.self.text) (stretches (drop l.index-counter l.place-items))
      ≡ length (joined_parts l.self);
}
