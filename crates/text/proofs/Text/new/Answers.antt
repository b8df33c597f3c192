use Rattle.std.proofs.Common.{rules}
use Rattle.text.proofs.Letters.{letters-nil}
use Rattle.text.proofs.Text.new.Goals as goal

pub returns-clause-refused : goal.returns-clause-refused
returns-clause-refused c = search (rules, letters-nil)
