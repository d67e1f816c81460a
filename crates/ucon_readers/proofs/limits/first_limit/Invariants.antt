use Rattle.std.proofs.Common.{◌≡◌, Some, map, take}
use Rattle.ucon_model.specs.declared.session.SessionRow.{SessionRow}
use Rattle.ucon_model.specs.Views.{predicate_of}
use Rattle.ucon_state.specs.Shown.{shown}
use Rattle.ucon_state.specs.Tables.{readings_in, session_in}
use Rattle.ucon_readers.specs.Limits.{IsFirstLimit, timed_parts}
use Rattle.ucon_readers.proofs.limits.first_limit.Given as goal

-- it is the first limit of the predicates so far
abbrev pub invariant-loop-p : goal.invariant-loop-p
invariant-loop-p l = (row : SessionRow) → session_in (shown l.state).tables l.n ≡ Some row
    → IsFirstLimit (readings_in (shown l.state).policy (shown l.state).tables) row (timed_parts (map predicate_of (take l.p-index l.p-items))) l.first
