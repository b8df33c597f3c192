-- The runs that are left before the first is given.
use Rattle.std.proofs.Common.{◌≡◌}
use Rattle.std.specs.List.{concat}
use Rattle.anystr.specs.declared.anystr.AnyStr
use Rattle.bytesinner.specs.words.Words.{runs, runs_left}
use Rattle.bytesinner.specs.words.Runs.{left_runs, IsOn}
use Rattle.bytesinner.specs.declared.words.runs.Runs.{Runs}

pub opened-left : {S C : Type 0} {s : AnyStr.Ghosts S C} {text : S} (rs : Runs S C s) → IsOn s text 0 rs
    → left_runs s rs ≡ runs (concat (s.elements text))
opened-left {s = s} rs on = λ i. runs_left (concat (s.elements (on.text i))) (on.place i)
