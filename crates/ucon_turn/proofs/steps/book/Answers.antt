use Rattle.std.proofs.Common.{rules}
use Rattle.ucon_turn.specs.Rule.{LedTo}
use Rattle.ucon_turn.proofs.Rounds.{books}
use Rattle.ucon_turn.proofs.steps.book.Goals as goal

pub fetch_add-requires : goal.fetch_add-requires
fetch_add-requires g c =
    let value = c.requires.value in
    (search rules, search rules, books g.E.Turned.caller (LedTo g.E.Turned.base g.E.Turned.stays) g.E.Turned.entries c.args.table.now.key.value _ _ _ _ value.0 c.requires.holding value.1 value.2 value.3)
