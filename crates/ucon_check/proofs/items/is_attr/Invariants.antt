use Rattle.std.proofs.Common.{◌≡◌, drop}
use Rattle.ucon_model.specs.Readings.{declared_attr}
use Rattle.ucon_check.proofs.items.is_attr.Given as goal

abbrev pub invariant-loop-d : goal.invariant-loop-d
invariant-loop-d l = declared_attr (drop l.d-index l.before) l.side l.name ≡ declared_attr l.before l.side l.name
