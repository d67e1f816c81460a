use Rattle.std.proofs.Common.{◌∙◌, [], ap, sym}
use Rattle.ucon_model.specs.Checked.{checked_policy}
use Rattle.ucon_state.specs.Applied.{opening_tables}
use Rattle.ucon_state.specs.Shown.{shown}
use Rattle.ucon_cascade.proofs.Opening.{if_ok, nobody_yet}
use Rattle.ucon_cascade.proofs.monitor.MonitorEngine.begin.Goals as goal

pub over-requires-clause-settled : goal.over-requires-clause-settled
over-requires-clause-settled c =
    let is = c.in_ok-state.ensures in
    record { same_policy = is.opening_policy ∙ sym is.policy; same_tables = is.opening ∙ sym is.tables }

pub over-requires-clause-nobody : goal.over-requires-clause-nobody
over-requires-clause-nobody c = nobody_yet (shown c.in_ok-state.state) (checked_policy c.args.checked) c.in_ok-state.ensures.tables

pub returns : goal.returns
returns c =
    let is = c.in_ok-state.ensures in
    let P = checked_policy c.args.checked in
    let follows = c.each_action_is_followed.ensures.opening (shown c.in_ok-state.state) P c.args.checked.typed is.policy (is.tables ∙ ap opening_tables (sym is.policy)) in
    if_ok c.over.result (λ m ready. ready P [] follows) c.over.ensures
