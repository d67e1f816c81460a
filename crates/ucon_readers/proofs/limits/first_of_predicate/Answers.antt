use Rattle.std.proofs.Common.{◌∙◌, [], List, subst, sym}
use Rattle.ucon_model.specs.Reach.{Timed}
use Rattle.ucon_model.specs.Views.{predicate_of}
use Rattle.ucon_state.specs.Shown.{shown}
use Rattle.ucon_state.specs.Tables.{readings_in}
use Rattle.ucon_readers.specs.Limits.{GivesWay}
use Rattle.ucon_readers.proofs.First.{its_parts, no_limit, no_parts, still_first}
use Rattle.ucon_readers.proofs.limits.first_of_predicate.Goals as goal

pub returns-then-not-is_ongoing : goal.returns-then-not-is_ongoing
returns-then-not-is_ongoing c = λ row there starts.
    let s = shown c.args.state.now in
    let R = readings_in s.policy s.tables in
    let o = c.args.first in
    subst (λ (parts : List Timed). GivesWay R row parts o o) (no_parts (predicate_of c.args.p.now) (sym c.is_ongoing.ensures ∙ c.if-not-is_ongoing.true))
    (still_first R row [] o (λ d limit. no_limit R row d limit))

pub returns : goal.returns
returns c = λ row there starts.
    let s = shown c.args.state.now in
    let R = readings_in s.policy s.tables in
    subst (λ (parts : List Timed). GivesWay R row parts c.args.first c.first_of_test.result)
    (its_parts (predicate_of c.args.p.now) (sym c.is_ongoing.ensures ∙ c.if-not-is_ongoing.false)) (c.first_of_test.ensures row there starts)
