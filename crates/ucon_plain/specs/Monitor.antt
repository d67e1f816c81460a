-- What the plain monitor follows.
use Rattle.std.specs.Prelude.{◌≡◌, ℕ, None}
use Rattle.ucon_model.specs.declared.command.Entry.{Entry}
use Rattle.ucon_model.specs.Plain.{PlainPolicy}
use Rattle.ucon_model.specs.Action.{Trace}
use Rattle.ucon_model.specs.Block.{after}
use Rattle.ucon_model.specs.Settle.{fails_at}
use Rattle.ucon_state.specs.Following.{Follows}
use Rattle.ucon_state.specs.Shown.{shown, given_back}
use Rattle.ucon_plain.specs.declared.monitor.PlainMonitor.{PlainMonitor}

-- its state follows the trace, and undoing gives the same policy and tables
pub record IsReady (m : PlainMonitor) (P : PlainPolicy) (T : Trace) : Type 0 where
  pub follows : Follows (shown m.state) P T
  pub settled_policy : (shown m.state).opening_policy ≡ (shown m.state).policy
  pub settled : (shown m.state).opening ≡ (shown m.state).tables

-- its state follows the trace after the entry's command, where nobody fails, and undoing gives what follows the trace
pub record HasPending (m : PlainMonitor) (P : PlainPolicy) (T : Trace) (e : Entry) : Type 0 where
  pub follows : Follows (shown m.state) P (after P T e.caller e.command)
  pub nobody : (n : ℕ) → fails_at P (after P T e.caller e.command) n ≡ None
  pub followed : Follows (given_back (shown m.state)) P T
