use Rattle.std.proofs.Common.{◌≡◌, ℕ, map, [], ◌∷◌, ◌++◌, length, take, drop, sym, refl, ap, ◌∙◌, subst, arith, w64}
use Rattle.std.specs.List.{All}
use Rattle.std.proofs.lemmas.Int.{to_z-of_z}
use Rattle.std.proofs.lemmas.List.{take_more, take_more_set, take_all, drop-set-lt, drop-drop}
use Rattle.std.proofs.lemmas.List.Elements.{All-nil, All-push, All-same}
use Rattle.cuts.specs.Cuts.{Opening, State, at_opening}
use Rattle.cuts.specs.Runs as runs
use Rattle.cuts.specs.Runs.{Run, Step}
use Rattle.cutters.specs.Calls.{opening, opening_of, state}
use Rattle.cutters.specs.Plays as plays
use Rattle.cutters.specs.Plays.{AnswerOn, Played}
use Rattle.cutters.specs.pieces.Yields.{same_opening}
use Rattle.cutters.proofs.Same.{same_again}
use Rattle.cutters.proofs.Telling.{plays_at}
use Rattle.cutters.proofs.play.play.Goals as goal

pub loop-i-init : goal.loop-i-init
loop-i-init g c =
    let on = opening c.open-cutter.result in
    record {
      run = ([], subst (λ (s : State). Run on at_opening [] s) (sym c.open-cutter.ensures.state) runs.none, plays.none);
      cut = All-nil (AnswerOn (g.S.AnyStr.elements c.args.text));
      later = refl;
      same = record { text = refl; searcher = refl; bound = refl };
      same_loans = refl;
    }

pub loop-i-preserved : goal.loop-i-preserved
loop-i-preserved g c =
    let first = c.open-cutter.result in
    let here = c.loop-i.cutter in
    let after = c.answer.new.self in
    let inv = c.loop-i.invariant in
    let i : ℕ = c.loop-i.i in
    let calls = c.args.calls.now in
    let answers = c.loop-i.answers in
    let call = c.index-calls-i.result in
    let ens = c.answer.ensures in
    let told = ens.step in
    let step : Step (opening first) (state here) told.0 (state after) =
    subst (λ (o : Opening). Step o (state here) told.0 (state after)) (same_opening first here inv.same) told.2 in
    let asked = take_more calls i call (omega arith) ∙ ap (λ x. take i calls ++ x ∷ []) (sym c.index-calls-i.is) in
    let written = take_more_set answers i c.answer.result (omega (arith, c.loop-i.auto.answers)) in
    let text = c.open-cutter.ensures.on.text in
    let lies = AnswerOn (g.S.AnyStr.elements c.args.text) in
    let on : lies c.answer.result =
    subst (λ t. AnswerOn (g.S.AnyStr.elements t) c.answer.result) (inv.same.text ∙ text) ens.cut in
    record {
      run = (told.0 ∷ inv.run.0, runs.more inv.run.1 step, plays_at asked written (plays.more inv.run.2 told.1));
      cut = All-same lies _ _ written (All-push lies (take i answers) c.answer.result inv.cut on);
      later =
          drop-set-lt _ answers i c.answer.result (omega arith)
          ∙ (sym (drop-drop 1 i answers) ∙ (ap (drop 1) inv.later ∙ drop-drop 1 i c.args.answers.now));
      same = same_again first here after inv.same ens.same;
      same_loans = ens.same_loans ∙ inv.same_loans;
    }

pub returns : goal.returns
returns g c =
    let first = c.open-cutter.result in
    let inv = c.loop-i.invariant in
    let calls = c.args.calls.now in
    let n : ℕ = length calls in
    let all : n ≡ c.loop-i.i = omega (arith, c.loop-i.auto.i-end, c.loop-i-test.false) in
    let ens = c.open-cutter.ensures in
    let bound : first.bound ≡ c.args.bound = ens.on.bound ∙ to_z-of_z w64 c.args.bound c.ranges.bound in
    let same : opening first ≡ opening_of g.S.AnyStr g.F.Searcher c.args.text c.args.searcher c.args.bound =
    λ i. opening_of g.S.AnyStr g.F.Searcher (ens.on.text i) (ens.on.searcher i) (bound i) in
    let told =
    plays_at (sym (take_all c.loop-i.i calls (omega arith))) (ap (λ (k : ℕ). take k c.loop-i.answers) all)
    inv.run.2 in
    let before = map g.T.AnyStrContainer.contents c.args.trays.now in
    let after = map g.T.AnyStrContainer.contents c.loop-i.trays in
    let played : Played g.S.AnyStr (opening first) calls before (take n c.loop-i.answers) after =
    record {
      events = inv.run.0;
      at_last = state c.loop-i.cutter;
      run = inv.run.1;
      told = told;
      law = ens.law _ _ inv.run.1;
    } in
    record {
      plays = (
        omega arith,
        subst (λ (o : Opening). Played g.S.AnyStr o calls before (take n c.loop-i.answers) after) same played,
        subst (λ (k : ℕ). drop k c.loop-i.answers ≡ drop k c.args.answers.now) (sym all) inv.later,
      );
      cut =
          subst (λ (k : ℕ). All (AnswerOn (g.S.AnyStr.elements c.args.text)) (take k c.loop-i.answers)) (sym all)
          inv.cut;
      same_loans = inv.same_loans;
    }

pub returns-then-answers-n-clause-plays : goal.returns-then-answers-n-clause-plays
returns-then-answers-n-clause-plays g c = (c.if-answers-n.true, refl, refl, refl)
