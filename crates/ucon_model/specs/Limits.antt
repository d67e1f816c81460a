-- The limits of a policy.
use Rattle.std.specs.Prelude.{◌≤◌, Bool, true, false, length, count_by}
use Rattle.ucon_base.specs.Elements.{Each}
use Rattle.ucon_base.specs.declared.value.Side.{Side}
use Rattle.ucon_model.specs.declared.policy.Phase.{Phase}
use Rattle.ucon_model.specs.declared.policy.Phase.TheVariants as phases
use Rattle.ucon_model.specs.declared.policy.When.{When}
use Rattle.ucon_model.specs.Plain.{PlainRight, PlainPolicy}
use Rattle.ucon_model.specs.Readings.{same_side}
use Rattle.ucon_model.specs.Updates.{same_when}

-- whether two phases are one
abbrev pub same_phase : Phase → Phase → Bool
same_phase phases.Pre phases.Pre = true
same_phase phases.Ongoing phases.Ongoing = true
same_phase a b = false

-- at most 16 predicates of each phase, and 16 updates of each time
pub record IsRightWithin (r : PlainRight) : Type 0 where
  pub preds : (phase : Phase) → count_by (λ p. same_phase phase p.phase) r.preds ≤ 16
  pub updates : (when : When) → count_by (λ u. same_when when u.when) r.updates ≤ 16

-- at most 16 attributes of each side
abbrev pub HasFewAttrs : PlainPolicy → Type 0
HasFewAttrs p = (side : Side) → count_by (λ a. same_side side a.side) p.attrs ≤ 16

-- at most 16 attributes of each side, 32 variables and 64 rights, each of which is within its limits
pub record IsWithin (p : PlainPolicy) : Type 0 where
  pub attrs : HasFewAttrs p
  pub envs : length p.envs ≤ 32
  pub rights : length p.rights ≤ 64
  pub each : Each IsRightWithin p.rights
