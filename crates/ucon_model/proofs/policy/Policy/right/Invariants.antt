use Rattle.std.proofs.Common.{◌≡◌, map, drop}
use Rattle.ucon_model.specs.Decision.{right_named}
use Rattle.ucon_model.specs.Views.{right_of}
use Rattle.ucon_model.proofs.policy.Policy.right.Given as goal

abbrev pub invariant-loop-r : goal.invariant-loop-r
invariant-loop-r l = right_named (map right_of (drop l.r-index l.r-items)) l.name ≡ right_named (map right_of l.r-items) l.name
