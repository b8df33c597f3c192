use Rattle.bytesinner.proofs.words.Spaces.{word_before, word_whole}
use Rattle.bytesinner.proofs.words.runs.word_end.Goals as goal

pub returns-in-Some : goal.returns-in-Some
returns-in-Some c =
    let found = c.in-Some.ensures in
    record {
      value = λ of.
          word_before c.args.bytes.now c.args.start c.in-Some.space.start c.in-Some.space.end (found.value of);
      seen = found.seen;
    }

pub returns-in-None : goal.returns-in-None
returns-in-None c =
    let found = c.in-None.ensures in
    record {
      value = λ of. word_whole c.args.bytes.now c.args.start c.requires (found.value of);
      seen = found.seen;
    }
