use Rattle.std.proofs.Common.{◌∙◌, ◌+◌, ◌++◌, sym, ap, drop, refl}
use Rattle.std.specs.List.{flat_map}
use Rattle.ucon_state.specs.Held.{held}
use Rattle.ucon_point.specs.PointText.{entity_lines}
use Rattle.ucon_point.proofs.Listed.{one_more}
use Rattle.ucon_point.proofs.writing.put_entities.Goals as goal

pub loop-number-preserved : goal.loop-number-preserved
loop-number-preserved c =
    let h = held c.args.state.now in
    let side = c.args.side in
    let n = c.loop-number.number in
    ap (λ out. out ++ flat_map (entity_lines h side) (drop (n + 1) (h.names side))) c.in_ok-put_with_attributes.ensures
    ∙ one_more (entity_lines h side) c.loop-number.out.items (entity_lines h side c.in-Some.name) _ (h.names side) n c.in-Some.name (sym c.in-Some.ensures)
    refl c.loop-number.invariant
