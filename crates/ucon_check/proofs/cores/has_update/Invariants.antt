use Rattle.std.proofs.Common.{◌≡◌, drop, map}
use Rattle.ucon_model.specs.Cores.{has_update}
use Rattle.ucon_model.specs.Views.{update_of}
use Rattle.ucon_check.proofs.cores.has_update.Given as goal

abbrev pub invariant-loop-u : goal.invariant-loop-u
invariant-loop-u l = has_update l.when (map update_of (drop l.u-index l.updates)) ≡ has_update l.when (map update_of l.updates)
