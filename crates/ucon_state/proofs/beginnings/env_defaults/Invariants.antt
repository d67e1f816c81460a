use Rattle.std.proofs.Common.{◌≡◌, ◌++◌, drop}
use Rattle.std.specs.Prelude.{map}
use Rattle.ucon_model.specs.Checked.{checked_policy}
use Rattle.ucon_state.proofs.beginnings.env_defaults.Given as goal

abbrev pub invariant-loop-decl : goal.invariant-loop-decl
invariant-loop-decl l = l.defaults.items ++ map (λ d. d.start) (drop l.decl-index (checked_policy l.checked).envs) ≡ map (λ d. d.start) (checked_policy l.checked).envs
