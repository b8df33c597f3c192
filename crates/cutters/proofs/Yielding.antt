-- What next gives, as an iterator has it.
use Rattle.std.proofs.Common.{Some, None, Option, List, length, ap, arith, rules}
use Rattle.std.specs.Bool.{⊤}
use Rattle.std.specs.Iterator.{MakesProgress, YieldsFirstBy, item_count}

-- where next gives the first of the items that are left, one fewer is left
pub goes_on : {S A B : Type 0} (view : A → B) (rest : S → List B) (s : S) (r : Option A) (t : S)
    → YieldsFirstBy view rest s r t → MakesProgress (λ _. ⊤) (item_count rest) s r t
goes_on view rest s None t h = search rules
goes_on view rest s (Some x) t h =
    let l = ap length h in record { on = λ _. (tt, tt, omega arith); keeps = tt; rests = λ _. tt }
