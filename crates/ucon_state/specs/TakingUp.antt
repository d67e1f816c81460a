-- What a state is like that an engine can take up.
use Rattle.std.specs.Prelude.{◌≡◌}
use Rattle.ucon_state.specs.Following.{IsFollowing}
use Rattle.ucon_state.specs.Shown.{Shown}

-- undoing gives the policy and the tables that are there now
pub record HasNothingToUndo (s : Shown) : Type 0 where
  pub same_policy : s.opening_policy ≡ s.policy
  pub same_tables : s.opening ≡ s.tables

-- An engine can take up the state: the state follows some trace, and has nothing to undo.
pub record CanBeTakenUp (s : Shown) : Type 0 where
  pub following : IsFollowing s
  pub settled : HasNothingToUndo s
