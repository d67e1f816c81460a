use Rattle.ucon_actions.specs.Leads.{Leads, KeepsBase}
use Rattle.ucon_state.specs.Shown.{shown}
use Rattle.ucon_actions.specs.Updating.{first_written_out}
use Rattle.ucon_actions.proofs.update.run_each_update.Given as goal

-- the updates so far have run
abbrev pub invariant-loop-at : goal.invariant-loop-at
invariant-loop-at l = record {
  leads : Leads (shown l.fn.state) (shown l.state) (λ P T. first_written_out P l.n l.when l.at T);
  base : KeepsBase (shown l.fn.state) (shown l.state);
}
