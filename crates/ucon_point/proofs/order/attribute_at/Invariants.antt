use Rattle.std.proofs.Common.{◌≡◌, ◌+◌, ◌≤◌, drop}
use Rattle.std.specs.Prelude.{filter, map, slice_get}
use Rattle.ucon_model.specs.Readings.{same_side}
use Rattle.ucon_point.specs.Order.{attribute_place}
use Rattle.ucon_point.proofs.order.attribute_at.Given as goal

-- what is looked for stands so many places on among the rest
abbrev pub invariant-loop-decl : goal.invariant-loop-decl
invariant-loop-decl l =
    (slice_get (map attribute_place (filter (λ d. same_side l.side d.side) (drop l.decl-index l.attrs))) l.before
    ≡ slice_get (map attribute_place (filter (λ d. same_side l.side d.side) l.fn.attrs)) l.n)
    × (l.n ≤ l.before + l.decl-index)
