use Rattle.std.proofs.Common.{◌≡◌, ◌++◌, map, take}
use Rattle.std.specs.List.{flat_map}
use Rattle.ucon_model.specs.Printing.{right_printing}
use Rattle.ucon_model.specs.Views.{right_of}
use Rattle.ucon_print.proofs.policy.put_rights.Given as goal

abbrev pub invariant-loop-right : goal.invariant-loop-right
invariant-loop-right l = l.out.items ≡ l.initial.out.items ++ flat_map right_printing (map right_of (take l.right-index l.rights))
