use Rattle.std.proofs.Common.{◌∙◌, sym}
use Rattle.ucon_state.specs.Shown.{shown}
use Rattle.ucon_state.specs.Tables.{session_in}
use Rattle.ucon_cascade.proofs.Anew.{goes_on_in, is_over_in, no_session}
use Rattle.ucon_cascade.proofs.follow.goes_on.Goals as goal

pub returns-in-Some-clause-on : goal.returns-in-Some-clause-on
returns-in-Some-clause-on c = λ on.
    goes_on_in (session_in (shown c.args.state.now).tables c.args.n) c.in-Some.it (sym c.session_state.ensures.tables ∙ c.in-Some.is) (sym c.is_accessing.ensures ∙ on)

pub returns-in-Some-clause-over : goal.returns-in-Some-clause-over
returns-in-Some-clause-over c = λ off.
    is_over_in (session_in (shown c.args.state.now).tables c.args.n) c.in-Some.it (sym c.session_state.ensures.tables ∙ c.in-Some.is) (sym c.is_accessing.ensures ∙ off)

pub returns-in-None-clause-over : goal.returns-in-None-clause-over
returns-in-None-clause-over c = λ off. no_session (session_in (shown c.args.state.now).tables c.args.n) (sym c.session_state.ensures.tables ∙ c.in-None.is)
