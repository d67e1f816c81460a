use Rattle.std.proofs.Common.{◌≡◌, ◌++◌, drop}
use Rattle.std.specs.Prelude.{map, filter}
use Rattle.ucon_model.specs.Checked.{checked_policy}
use Rattle.ucon_model.specs.Readings.{same_side}
use Rattle.ucon_state.specs.Applied.{defaults_of}
use Rattle.ucon_state.proofs.beginnings.attr_defaults.Given as goal

abbrev pub invariant-loop-decl : goal.invariant-loop-decl
invariant-loop-decl l =
    l.defaults.items ++ map (λ d. d.start) (filter (λ d. same_side l.side d.side) (drop l.decl-index (checked_policy l.checked).attrs)) ≡ defaults_of (checked_policy l.checked) l.side
