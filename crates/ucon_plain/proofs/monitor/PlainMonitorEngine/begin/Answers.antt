use Rattle.std.proofs.Common.{◌∙◌, sym, ap}
use Rattle.ucon_model.specs.Checked.{checked_policy}
use Rattle.ucon_state.specs.Applied.{opening_tables}
use Rattle.ucon_state.specs.Shown.{shown}
use Rattle.ucon_plain.proofs.monitor.PlainMonitorEngine.begin.Goals as goal

pub returns : goal.returns
returns c =
    let P = checked_policy c.args.checked in
    let s = shown c.in_ok-state.state in
    let follows = c.each_action_is_followed.ensures.opening s P c.args.checked.typed c.in_ok-state.ensures.policy (c.in_ok-state.ensures.tables ∙ ap opening_tables (sym c.in_ok-state.ensures.policy)) in
    record {
      follows = follows;
      settled_policy = c.in_ok-state.ensures.opening_policy ∙ sym c.in_ok-state.ensures.policy;
      settled = c.in_ok-state.ensures.opening ∙ sym c.in_ok-state.ensures.tables;
    }
