use Rattle.std.proofs.Common.{◌≡◌, None, rules, sym, true}
use Rattle.ucon_model.specs.Readings.{is_accessing_state}
use Rattle.ucon_state.specs.Shown.{shown}
use Rattle.ucon_cascade.proofs.Alike.{asked, no_set_is_made}
use Rattle.ucon_cascade.proofs.settle.fails_at.Goals as goal

pub returns-then-surely_goes_on-clause-label : goal.returns-then-surely_goes_on-clause-label
returns-then-surely_goes_on-clause-label c = λ P T h.
    let going : is_accessing_state c.in_ok-session_state.field-0 ≡ true = search rules in
    asked c.tables_keep_what_is_followed.ensures c.readings_that_agree_are_one.ensures (shown c.args.state.now) P T h c.args.n c.in_ok-session_state.field-0 None
    (sym c.in_ok-session_state.ensures.tables) going (sym (c.surely_goes_on.ensures c.if-surely_goes_on.true))

pub failing-requires-clause-no_set : goal.failing-requires-clause-no_set
failing-requires-clause-no_set c =
    no_set_is_made c.tables_keep_what_is_followed.ensures c.typed_tests_make_no_set.ensures.all (shown c.args.state.now) c.requires.policy c.requires.trace c.requires.follows c.args.n

pub returns-clause-label : goal.returns-clause-label
returns-clause-label c = λ P T h.
    let going : is_accessing_state c.in_ok-session_state.field-0 ≡ true = search rules in
    asked c.tables_keep_what_is_followed.ensures c.readings_that_agree_are_one.ensures (shown c.args.state.now) P T h c.args.n c.in_ok-session_state.field-0 c.failing.result
    (sym c.in_ok-session_state.ensures.tables) going c.failing.ensures.label
