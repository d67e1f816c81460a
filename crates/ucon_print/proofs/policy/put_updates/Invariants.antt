use Rattle.std.proofs.Common.{◌≡◌, ◌++◌, map, take}
use Rattle.std.specs.List.{flat_map}
use Rattle.ucon_model.specs.Printing.{update_printing}
use Rattle.ucon_model.specs.Views.{update_of}
use Rattle.ucon_print.proofs.policy.put_updates.Given as goal

abbrev pub invariant-loop-update : goal.invariant-loop-update
invariant-loop-update l = l.out.items ≡ l.initial.out.items ++ flat_map update_printing (map update_of (take l.update-index l.updates))
