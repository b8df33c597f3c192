use Rattle.std.proofs.Common.{◌≡◌, ℕ, List, Ok, rules}
use Rattle.anystr.specs.Indices.{start_of, end_of}
use Rattle.bytesinner.specs.declared.finds.options.ByteInnerFindOptions.{ByteInnerFindOptions}
use Rattle.bytesinner.specs.finds.Asked.{sub_of, answer_in, target, needle_bytes}
use Rattle.bytesinner.proofs.finds.options.ByteInnerFindOptions.get_value.Goals as goal

-- a needle that is meant, with the offsets that are meant
given : (o : ByteInnerFindOptions) (len a b : ℕ) (n : List ℕ) → sub_of o.sub ≡ Ok n → a ≡ start_of o.start len
    → b ≡ end_of o.end len → Ok (target n a b) ≡ answer_in target o len
given o len a b n sub start end = cc

pub returns : goal.returns
returns c =
    let needle : sub_of c.args.self.sub ≡ Ok (needle_bytes c.match-self.needle) = search rules in
    given c.args.self c.args.len c.adjust_indices.result.start c.adjust_indices.result.end
    (needle_bytes c.match-self.needle) needle c.adjust_indices.ensures.start c.adjust_indices.ensures.end
