use Rattle.std.proofs.Common.{◌≡◌, ◌++◌, map, drop}
use Rattle.ucon_model.specs.Views.{right_of}
use Rattle.ucon_model.proofs.copy.rights.Given as goal

abbrev pub invariant-loop-r : goal.invariant-loop-r
invariant-loop-r l = map right_of l.rows.items ++ map right_of (drop l.r-index l.rights) ≡ map right_of l.rights
