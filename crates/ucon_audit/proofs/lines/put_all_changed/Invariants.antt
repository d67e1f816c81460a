use Rattle.std.proofs.Common.{◌≡◌, ◌++◌, take}
use Rattle.std.specs.List.{flat_map}
use Rattle.ucon_audit.specs.Lines.{changed_line}
use Rattle.ucon_audit.proofs.lines.put_all_changed.Given as goal

abbrev pub invariant-loop-one : goal.invariant-loop-one
invariant-loop-one l = l.out.items ≡ l.initial.out.items ++ flat_map changed_line (take l.one-index l.changed)
