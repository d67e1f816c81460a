use Rattle.std.proofs.Common.{◌≡◌, map, drop}
use Rattle.std.specs.List.{list_any}
use Rattle.ucon_model.specs.OwnActions.{is_duty_of}
use Rattle.ucon_model.specs.Views.{predicate_of}
use Rattle.ucon_model.proofs.policy.Right.names_act.Given as goal

abbrev pub invariant-loop-p : goal.invariant-loop-p
invariant-loop-p l = list_any (λ p. is_duty_of l.action p.test) (map predicate_of (drop l.p-index l.p-items)) ≡ list_any (λ p. is_duty_of l.action p.test) (map predicate_of l.p-items)
