use Rattle.std.proofs.Common.{◌≡◌, ◌≤◌, drop, filter}
use Rattle.std.specs.List.{position_from}
use Rattle.std.specs.Str.{bytes_eq}
use Rattle.ucon_model.specs.Readings.{attr_position, same_side}
use Rattle.ucon_model.specs.Views.{policy_of}
use Rattle.ucon_model.proofs.policy.Policy.attr_position.Given as goal

-- from here on it is counted up from those before
abbrev pub invariant-loop-d : goal.invariant-loop-d
invariant-loop-d l =
    (position_from (λ d. bytes_eq l.name d.name) l.before (filter (λ d. same_side l.side d.side) (drop l.d-index l.d-items))
    ≡ attr_position (policy_of l.self) l.side l.name) × (l.before ≤ l.d-index)
