use Rattle.std.proofs.Common.{◌≡◌, drop}
use Rattle.ucon_model.specs.Readings.{declared_env}
use Rattle.ucon_check.proofs.items.is_env.Given as goal

abbrev pub invariant-loop-d : goal.invariant-loop-d
invariant-loop-d l = declared_env (drop l.d-index l.before) l.name ≡ declared_env l.before l.name
