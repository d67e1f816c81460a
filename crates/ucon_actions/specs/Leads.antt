-- What leads from one state to another.
use Rattle.std.specs.Prelude.{◌≡◌, ℕ, Some}
use Rattle.ucon_base.specs.declared.value.Side.{Side}
use Rattle.ucon_model.specs.Plain.{Bytes, PlainPolicy}
use Rattle.ucon_model.specs.Action.{Trace}
use Rattle.ucon_state.specs.Following.{Follows}
pub use Rattle.ucon_state.specs.Following.{IsFollowing, AfterEach}
use Rattle.ucon_state.specs.Shown.{Shown}
use Rattle.ucon_state.specs.Tables.{cell_of}

-- what follows a trace before follows after it the trace that this makes of it
abbrev pub Leads : Shown → Shown → (PlainPolicy → Trace → Trace) → Type 0
Leads s s' next = (P : PlainPolicy) (T : Trace) → Follows s P T → Follows s' P (next P T)

-- the cells of the attributes of those that are there stay
abbrev pub KeepsCells : Shown → Shown → Type 0
KeepsCells s s' =
    (side : Side) (name attr : Bytes) (cell : ℕ) → cell_of s.policy s.tables side name attr ≡ Some cell
    → cell_of s'.policy s'.tables side name attr ≡ Some cell

-- what undoing gives stays
pub record KeepsOpening (s s' : Shown) : Type 0 where
  pub opening_policy : s'.opening_policy ≡ s.opening_policy
  pub opening : s'.opening ≡ s.opening

-- the policy stays, what undoing gives, and the cells of those that are there
pub record KeepsBase (s s' : Shown) : Type 0 where
  pub policy : s'.policy ≡ s.policy
  pub opening_policy : s'.opening_policy ≡ s.opening_policy
  pub opening : s'.opening ≡ s.opening
  pub cells : KeepsCells s s'
