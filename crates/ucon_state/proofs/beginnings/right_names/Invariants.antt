use Rattle.std.proofs.Common.{◌≡◌, ◌++◌, drop}
use Rattle.std.specs.Prelude.{map}
use Rattle.ucon_model.specs.Views.{right_of}
use Rattle.ucon_state.proofs.beginnings.right_names.Given as goal

abbrev pub invariant-loop-right : goal.invariant-loop-right
invariant-loop-right l =
    l.names.items ++ map (λ r. r.name) (map right_of (drop l.right-index l.rights)) ≡ map (λ r. r.name) (map right_of l.rights)
