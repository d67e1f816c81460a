use Rattle.std.proofs.Common.{rules}
use Rattle.ucon_turn.specs.Rule.{LedTo}
use Rattle.ucon_turn.proofs.Splitting.{splits}
use Rattle.ucon_turn.proofs.steps.part.Goals as goal

pub split_seat-requires : goal.split_seat-requires
split_seat-requires g c =
    let above = c.requires.above in
    (search rules, search rules, splits g.E.Turned.caller (LedTo g.E.Turned.base g.E.Turned.stays) g.E.Turned.entries c.args.table.now.key.value _ _ c.requires.idle.0 c.requires.idle.1 above.0 above.1 above.2)
