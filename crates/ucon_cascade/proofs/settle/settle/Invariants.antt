use Rattle.std.proofs.Common.{◌≡◌, ◌≤◌, ℕ, ℤ, List}
use Rattle.std.specs.Prelude.{Option}
use Rattle.ucon_model.specs.Plain.{PlainPolicy}
use Rattle.ucon_model.specs.Action.{Trace}
use Rattle.ucon_model.specs.Settle.{settle_within, settled_to, revoked_in}
use Rattle.ucon_state.specs.Following.{Follows}
use Rattle.ucon_state.specs.Shown.{shown}
use Rattle.ucon_actions.specs.Leads.{Leads, KeepsBase}
use Rattle.ucon_cascade.specs.Cascading.{IsWork}
use Rattle.ucon_cascade.specs.Numbering.{IsExact}
use Rattle.ucon_readers.specs.Readers.{UndoGives, first_of, readers_at}
use Rattle.ucon_cascade.specs.Timely.{AreTimely}
use Rattle.ucon_readers.specs.Timers.{UndoGives as TimersGive, deadlines_in}
use Rattle.ucon_cascade.proofs.Costing.{ArePaidAfter, FewerGoOn}
use Rattle.ucon_cascade.proofs.settle.settle.Given as goal

-- so many turns are taken
abbrev pub invariant-turns : goal.invariant-turns
invariant-turns l = record {
  leads : Leads (shown l.fn.state) (shown l.state) (settled_to l.counter);
  revoked : (P : PlainPolicy) (T : Trace) → Follows (shown l.fn.state) P T → l.revoked.items ≡ revoked_in (settle_within l.counter P T);
  work : IsWork (shown l.state) (first_of l.readers) l.work.members;
  exact : IsExact (shown l.state) (readers_at l.readers);
  undo : (standing : ℕ → List ℕ) (first : ℕ → ℕ) → UndoGives l.fn.readers standing first → UndoGives l.readers standing first;
  timed : (P : PlainPolicy) (T : Trace) → Follows (shown l.fn.state) P T → AreTimely (deadlines_in l.fn.timers) P T → AreTimely (deadlines_in l.timers) P (settled_to l.counter P T);
  timers_undo : (before : List (Option ℤ)) → TimersGive l.fn.timers before → TimersGive l.timers before;
  paid : ArePaidAfter (shown l.fn.state) (first_of l.fn.readers) l.fn.work.members l.counter (first_of l.readers) l.work.members l.fn.steps l.steps;
  fewer : FewerGoOn (shown l.fn.state) (shown l.state);
  limit : l.work.limit ≡ l.fn.work.limit;
  base : KeepsBase (shown l.fn.state) (shown l.state);
  later : l.fn.steps ≤ l.steps;
}
