use Rattle.std.proofs.Common.{◌≡◌, ◌++◌, map, drop}
use Rattle.ucon_model.specs.Views.{update_of}
use Rattle.ucon_model.proofs.copy.updates.Given as goal

abbrev pub invariant-loop-u : goal.invariant-loop-u
invariant-loop-u l = map update_of l.rows.items ++ map update_of (drop l.u-index l.updates) ≡ map update_of l.updates
