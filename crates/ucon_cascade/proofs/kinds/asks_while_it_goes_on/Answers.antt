use Rattle.std.proofs.Common.{◌∙◌, List, Some, filter, map, ap, sym}
use Rattle.ucon_model.specs.declared.policy.Predicate.{Predicate}
use Rattle.ucon_model.specs.Decision.{ongoing}
use Rattle.ucon_model.specs.Views.{predicate_of, right_of}
use Rattle.ucon_state.specs.Shown.{shown}
use Rattle.ucon_cascade.proofs.Asking.{no_parts, no_places, none_ongoing, right_by_row}
use Rattle.ucon_cascade.proofs.kinds.asks_while_it_goes_on.Goals as goal

pub returns-in-Some-clause-places : goal.returns-in-Some-clause-places
returns-in-Some-clause-places c = λ no row is.
    let s = shown c.args.state.now in
    let r = right_of c.in-Some.right.now in
    let none = ap (λ (ps : List Predicate). filter ongoing (map predicate_of ps)) (sym c.slice.ensures) ∙ none_ongoing c.slice.result.now (sym c.has_ongoing.ensures ∙ no) in
    no_places s.policy row r (right_by_row s c.args.n row (Some r) is c.in-Some.ensures) none

pub returns-in-Some-clause-timed : goal.returns-in-Some-clause-timed
returns-in-Some-clause-timed c = λ no row is.
    let s = shown c.args.state.now in
    let r = right_of c.in-Some.right.now in
    let none = ap (λ (ps : List Predicate). filter ongoing (map predicate_of ps)) (sym c.slice.ensures) ∙ none_ongoing c.slice.result.now (sym c.has_ongoing.ensures ∙ no) in
    no_parts s.policy row r (right_by_row s c.args.n row (Some r) is c.in-Some.ensures) none
