use Rattle.std.proofs.Common.{◌≡◌, Some, map, take}
use Rattle.ucon_model.specs.Reach.{targets}
use Rattle.ucon_model.specs.Views.{update_of}
use Rattle.ucon_model.specs.declared.session.SessionRow.{SessionRow}
use Rattle.ucon_state.specs.Shown.{shown}
use Rattle.ucon_state.specs.Tables.{session_in}
use Rattle.ucon_cascade.specs.Putting.{GainsFirsts, StandsAtOne}
use Rattle.ucon_readers.specs.Readers.{first_of, readers_at}
use Rattle.ucon_cascade.proofs.own_work.put_each_target.Given as goal

-- who reads where the updates so far write is in the work
abbrev pub invariant-loop-u : goal.invariant-loop-u
invariant-loop-u l = record {
  members : (row : SessionRow) → session_in (shown l.state).tables l.n ≡ Some row → GainsFirsts (first_of l.readers) l.initial.work.members l.work.members
      (StandsAtOne (shown l.state) (readers_at l.readers) (targets row l.when (map update_of (take l.u-index l.u-items))));
  limit : l.work.limit ≡ l.initial.work.limit;
}
