use Rattle.std.proofs.Common.{rules}
use Rattle.cutters.specs.pieces.Loans.{loan_of}
use Rattle.cutters.proofs.pieces.lent.fill.Goals as goal

-- each next keeps the loan
pub returns-clause-left : goal.returns-clause-left
returns-clause-left g c =
    let same = c.fill.ensures.kept loan_of (λ _ _ _ h. h.same_loan) in
    search rules
