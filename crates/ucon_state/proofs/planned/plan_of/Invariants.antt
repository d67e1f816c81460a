use Rattle.std.proofs.Common.{map, take}
use Rattle.ucon_model.specs.Views.{policy_of, predicate_of}
use Rattle.ucon_state.specs.Planned.{AreEnough}
use Rattle.ucon_state.proofs.planned.plan_of.Given as goal

-- the checks so far are enough for the predicates so far
abbrev pub invariant-loop-p : goal.invariant-loop-p
invariant-loop-p l = AreEnough (policy_of l.policy) l.checks.items (map predicate_of (take l.p-index l.p-items))
