use Rattle.std.proofs.Common.{◌≡◌, map, take}
use Rattle.ucon_accept.specs.Facts.{value_fact}
use Rattle.ucon_explain.proofs.facts.value_facts.Given as goal

-- those of the places so far
abbrev pub invariant-loop-place : goal.invariant-loop-place
invariant-loop-place g l = l.facts.items ≡ map (value_fact (g.V.View.readings l.view) l.row) (take l.place-index l.places)
