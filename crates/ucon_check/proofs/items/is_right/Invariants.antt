use Rattle.std.proofs.Common.{◌≡◌, drop, map}
use Rattle.ucon_model.specs.Decision.{right_named}
use Rattle.ucon_model.specs.Views.{right_of}
use Rattle.ucon_check.proofs.items.is_right.Given as goal

abbrev pub invariant-loop-r : goal.invariant-loop-r
invariant-loop-r l = right_named (map right_of (drop l.r-index l.before)) l.name ≡ right_named (map right_of l.before) l.name
