use Rattle.std.proofs.Common.{rules}
use Rattle.ucon_turn.specs.Rule.{LedTo}
use Rattle.ucon_turn.proofs.Rounds.{passes}
use Rattle.ucon_turn.proofs.steps.pass.Goals as goal

pub fetch_add-ticket-requires : goal.fetch_add-ticket-requires
fetch_add-ticket-requires g c =
    let value = c.requires.value in
    (search rules, search rules, passes g.E.Turned.caller (LedTo g.E.Turned.base g.E.Turned.stays) g.E.Turned.entries c.args.table.now.key.value _ _ _ value.0 c.requires.booked value.1 value.2 value.3)
