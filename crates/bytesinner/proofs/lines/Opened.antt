-- The lines that are left before the first is given.
use Rattle.std.proofs.Common.{◌≡◌, Bool, negsuc}
use Rattle.anystr.specs.declared.anystr.AnyStr
use Rattle.searchers.specs.declared.searcher.Searcher
use Rattle.cuts.specs.Cuts.{at_opening}
use Rattle.cutters.specs.Calls.{opening_of}
use Rattle.bytesinner.specs.lines.Lines.{lines_left}
use Rattle.bytesinner.specs.lines.Reader.{state, left_lines, IsOn}
use Rattle.bytesinner.specs.declared.lines.reader.Lines.{Lines}

pub opened-left : {S F C : Type 0} {s : AnyStr.Ghosts S C} {f : Searcher.Ghosts F S C}
    {text : S} {ends : F} {keepends : Bool} (l : Lines S F C s f) → IsOn text ends keepends l → state l ≡ at_opening
    → left_lines l ≡ lines_left (opening_of s f text ends (negsuc 0)) keepends at_opening
opened-left {s = s} {f = f} l on first =
    let c = on.cutter in
    λ i. lines_left (opening_of s f (c.text i) (c.searcher i) (c.bound i)) (on.keepends i) (first i)
