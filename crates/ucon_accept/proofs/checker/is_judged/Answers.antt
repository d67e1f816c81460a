use Rattle.std.proofs.Common.{◌≡◌, ◌∙◌, true, false, List, sym, ap, rules}
use Rattle.ucon_model.specs.Views.{test_of}
use Rattle.ucon_accept.specs.declared.explanation.Fact.{Fact}
use Rattle.ucon_accept.specs.Checking.{tell_test}
use Rattle.ucon_accept.proofs.Reading.{test_facts_told, test_told_right}
use Rattle.ucon_accept.proofs.Truths.{told_is_true, told_makes_no_set}
use Rattle.ucon_accept.proofs.checker.is_judged.Goals as goal

pub truth_told-requires : goal.truth_told-requires
truth_told-requires g c =
    let R = g.V.View.readings c.args.view.now in
    let row = c.args.row.now in
    let fs = c.args.facts.now in
    let t = test_of c.args.test.now in
    let passes : tell_test R row fs t ≡ true = search rules in
    told_makes_no_set R row fs t (test_told_right R row fs t passes) c.requires.no_set

pub returns-then-not-tell_test : goal.returns-then-not-tell_test
returns-then-not-tell_test g c =
    let R = g.V.View.readings c.args.view.now in
    let row = c.args.row.now in
    let fs = c.args.facts.now in
    let t = test_of c.args.test.now in
    let fails : tell_test R row fs t ≡ false = search rules in
    (λ yes. absurd (cc (yes)), λ e. sym fails ∙ ap (λ (x : List Fact). tell_test R row x t) e.0 ∙ test_facts_told R row t)

pub returns : goal.returns
returns g c =
    let R = g.V.View.readings c.args.view.now in
    let row = c.args.row.now in
    let fs = c.args.facts.now in
    let t = test_of c.args.test.now in
    let passes : tell_test R row fs t ≡ true = search rules in
    let right = test_told_right R row fs t passes in
    let truth = c.truth_told.ensures ∙ told_is_true R row fs t c.requires.fresh right in
    (λ yes. (right, c.is_same_truth.ensures.0 yes ∙ truth), λ e. c.is_same_truth.ensures.1 (e.1 ∙ sym truth))
