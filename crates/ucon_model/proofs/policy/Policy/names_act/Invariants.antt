use Rattle.std.proofs.Common.{◌≡◌, map, drop}
use Rattle.ucon_model.specs.OwnActions.{names_act}
use Rattle.ucon_model.specs.Views.{right_of}
use Rattle.ucon_model.proofs.policy.Policy.names_act.Given as goal

abbrev pub invariant-loop-r : goal.invariant-loop-r
invariant-loop-r l = names_act (map right_of (drop l.r-index l.r-items)) l.action ≡ names_act (map right_of l.r-items) l.action
