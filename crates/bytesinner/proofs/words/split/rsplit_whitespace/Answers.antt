use Rattle.std.proofs.Common.{◌≡◌, ℕ, drop, Ok, ap, ◌∙◌, rules}
use Rattle.std.specs.List.{concat}
use Rattle.std.specs.Iterator.Adapters.{skip_source, skip_count}
use Rattle.std.specs.declared.iter.Skip.{Skip}
use Rattle.cutters.specs.pieces.Skipped.{left_after}
use Rattle.anystr.specs.declared.anystr.AnyStr
use Rattle.bytesinner.specs.words.Runs.{left_runs, IsOn}
use Rattle.bytesinner.specs.words.Words.{runs}
use Rattle.bytesinner.proofs.words.Opened.{opened-left}
use Rattle.bytesinner.specs.declared.words.runs.Runs.{Runs}
use Rattle.bytesinner.proofs.words.Bounded.{wanted, begun, rwords_length, rwords_put, rwords_put_cut}
use Rattle.bytesinner.proofs.words.OnText.{rwords-cut, told}
use Rattle.bytesinner.proofs.words.split.rsplit_whitespace.Goals as goal

-- what is left of the runs behind those that are passed over
skipped : {S C : Type 0} {s : AnyStr.Ghosts S C} {text : S} (last : Skip (Runs S C s)) {all : Runs S C s} {n : ℕ}
    → IsOn s text 0 all → skip_source last ≡ all → skip_count last ≡ n
    → left_after (left_runs s) last ≡ drop n (runs (concat (s.elements text)))
skipped {s = s} last {all} {n} on from over =
    (λ i. drop (over i) (left_runs s (from i))) ∙ ap (drop n) (opened-left all on)

pub returns-in_err-n : goal.returns-in_err-n
returns-in_err-n g c =
    let es = g.S.AnyStr.elements c.args.text.now in
    let w = wanted c.new-shares.ensures.total c.ranges.maxsplit c.new-shares.ensures.alone c.places.ensures in
    let l = rwords_length w in
    told es _ (rwords-cut es c.args.maxsplit) c.args.places.now _ _ (search rules)

pub returns-then-shares : goal.returns-then-shares
returns-then-shares g c =
    let es = g.S.AnyStr.elements c.args.text.now in
    let last = skipped c.skip-last.result c.new.ensures c.skip-last.ensures.source c.skip-last.ensures.count in
    let b = begun c.new-shares.ensures.total c.ranges.maxsplit c.new-shares.ensures.alone c.places.ensures
    c.in_ok-n.ensures last c.fill.auto.places c.fill.ensures.written in
    told es _ (rwords-cut es c.args.maxsplit) c.args.places.now _ (Ok c.in_ok-n.n)
    (rwords_put_cut b.shares b.room c.if-shares.true b.filled)

pub returns-else-shares : goal.returns-else-shares
returns-else-shares g c =
    let es = g.S.AnyStr.elements c.args.text.now in
    let last = skipped c.skip-last.result c.new.ensures c.skip-last.ensures.source c.skip-last.ensures.count in
    let b = begun c.new-shares.ensures.total c.ranges.maxsplit c.new-shares.ensures.alone c.places.ensures
    c.in_ok-n.ensures last c.fill.auto.places c.fill.ensures.written in
    told es _ (rwords-cut es c.args.maxsplit) c.args.places.now _ (Ok c.in_ok-n.n)
    (rwords_put b.shares b.room c.if-shares.false b.filled)
