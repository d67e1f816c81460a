use Rattle.std.proofs.Common.{rules}
use Rattle.ucon_turn.specs.Rule.{LedTo}
use Rattle.ucon_turn.proofs.Rounds.{notes}
use Rattle.ucon_turn.proofs.steps.note.Goals as goal

pub compare_exchange-requires : goal.compare_exchange-requires
compare_exchange-requires g c = (search rules, search rules, notes g.E.Turned.caller (LedTo g.E.Turned.base g.E.Turned.stays) g.E.Turned.entries c.args.table.now.key.value _ _ _ _ c.requires.idle)
