use Rattle.std.proofs.Common.{◌≡◌, ◌++◌, drop}
use Rattle.std.specs.Prelude.{map}
use Rattle.ucon_model.specs.Checked.{checked_policy}
use Rattle.ucon_state.specs.Applied.{kept_variable}
use Rattle.ucon_state.specs.Views.{lists_of}
use Rattle.ucon_state.proofs.layout.keep_variables.Given as goal

abbrev pub invariant-loop-decl : goal.invariant-loop-decl
invariant-loop-decl l =
    l.variables.items ++ map (kept_variable (checked_policy l.old) (lists_of l.tables)) (drop l.decl-index (checked_policy l.new).envs)
    ≡ map (kept_variable (checked_policy l.old) (lists_of l.tables)) (checked_policy l.new).envs
