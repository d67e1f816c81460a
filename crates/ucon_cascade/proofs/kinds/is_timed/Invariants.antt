use Rattle.std.proofs.Common.{◌≡◌, [], map, take}
use Rattle.ucon_model.specs.Views.{predicate_of}
use Rattle.ucon_readers.specs.Limits.{timed_parts}
use Rattle.ucon_cascade.proofs.kinds.is_timed.Given as goal

-- no predicate so far has timed parts
abbrev pub invariant-loop-p : goal.invariant-loop-p
invariant-loop-p l = timed_parts (map predicate_of (take l.p-index l.p-items)) ≡ []
