use Rattle.std.proofs.Common.{◌∙◌, Some, ap, rules, subst, sym, w64}
use mir.Val.{SFits}
use Rattle.std.proofs.lemmas.Int.{to_z-of_z}
use Rattle.ucon_model.specs.declared.formula.Obligation.{Obligation}
use Rattle.ucon_model.specs.declared.policy.Test.{Test}
use Rattle.ucon_model.specs.Reach.{owed, test_timed}
use Rattle.ucon_model.specs.Views.{test_of}
use Rattle.ucon_state.specs.Shown.{shown}
use Rattle.ucon_state.specs.Tables.{readings_in}
use Rattle.ucon_readers.specs.Limits.{GivesWay}
use Rattle.ucon_readers.proofs.First.{limit_of_duty, without_limit}
use Rattle.ucon_readers.proofs.limits.first_of_test.Goals as goal

pub returns-in-Authorisation : goal.returns-in-Authorisation
returns-in-Authorisation c = λ row there starts.
    let s = shown c.args.state.now in
    let R = readings_in s.policy s.tables in
    subst (λ (t : Test). GivesWay R row (test_timed (test_of t)) c.args.first c.first_of_formula.result) (sym c.in-Authorisation.is)
    (c.first_of_formula.ensures R row (sym c.tick.ensures) starts)

pub returns-in-Some : goal.returns-in-Some
returns-in-Some c = λ row there starts.
    let s = shown c.args.state.now in
    let R = readings_in s.policy s.tables in
    let o : Obligation = c.in-Obligation.o in
    let fits : SFits w64 c.in-Some.limit = search rules in
    let is = limit_of_duty R c.args.n row o c.args.start c.done_at.result c.form_limit.result there starts c.done_at.ensures c.form_limit.ensures in
    subst (λ (t : Test). GivesWay R row (test_timed (test_of t)) c.args.first c.earlier.result) (sym c.in-Obligation.is)
    (c.earlier.ensures R row (owed o) (sym c.tick-in-Some.ensures) (is ∙ c.in-Some.is ∙ ap Some (sym (to_z-of_z w64 c.in-Some.limit fits))))

pub returns-in-None : goal.returns-in-None
returns-in-None c = λ row there starts.
    let s = shown c.args.state.now in
    let R = readings_in s.policy s.tables in
    let o : Obligation = c.in-Obligation.o in
    let is = limit_of_duty R c.args.n row o c.args.start c.done_at.result c.form_limit.result there starts c.done_at.ensures c.form_limit.ensures in
    subst (λ (t : Test). GivesWay R row (test_timed (test_of t)) c.args.first c.args.first) (sym c.in-Obligation.is)
    (without_limit R row (owed o) c.args.first (is ∙ c.in-None.is))

pub returns-in-Condition : goal.returns-in-Condition
returns-in-Condition c = λ row there starts.
    let s = shown c.args.state.now in
    let R = readings_in s.policy s.tables in
    subst (λ (t : Test). GivesWay R row (test_timed (test_of t)) c.args.first c.first_of_formula-in-Condition.result) (sym c.in-Condition.is)
    (c.first_of_formula-in-Condition.ensures R row (sym c.tick-in-Condition.ensures) starts)
