use Rattle.std.proofs.Common.{◌≡◌, ◌∙◌, ap, sym, rules, true}
use Rattle.ucon_model.specs.Readings.{is_accessing_state}
use Rattle.ucon_state.specs.Shown.{shown}
use Rattle.ucon_state.specs.Tables.{session_in}
use Rattle.ucon_plain.proofs.Failing.{fails_told, no_sets_there}
use Rattle.ucon_plain.proofs.Least.{told_is_there}
use Rattle.ucon_plain.proofs.settle.fails_at.Goals as goal

pub failing-requires-clause-no_set : goal.failing-requires-clause-no_set
failing-requires-clause-no_set c = no_sets_there c.typed_tests_make_no_set.ensures.all c.tables_keep_what_is_followed.ensures (shown c.args.state.now) c.requires.policy c.requires.trace c.requires.follows c.args.n

pub returns-clause-label : goal.returns-clause-label
returns-clause-label c = λ P T h.
    let s = shown c.args.state.now in
    let told = told_is_there (session_in s.tables c.args.n) c.in_ok-session_state.field-0 (sym c.in_ok-session_state.ensures.tables) in
    let going : is_accessing_state c.in_ok-session_state.field-0 ≡ true = search rules in
    fails_told c.views_that_agree_decide_alike.ensures.failing c.tables_keep_what_is_followed.ensures s P T h c.args.n told.0 c.failing.result told.1 (ap is_accessing_state told.2 ∙ going) c.failing.ensures.label
