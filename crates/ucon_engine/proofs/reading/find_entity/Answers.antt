use Rattle.std.proofs.Common.{◌∙◌, ap, sym, is_some}
use Rattle.ucon_state.specs.Shown.{shown}
use Rattle.ucon_engine.specs.ReadOff.{entity_there}
use Rattle.ucon_engine.proofs.reading.find_entity.Goals as goal

pub returns-clause-trace : goal.returns-clause-trace
returns-clause-trace c = λ P T h. entity_there c.tables_keep_what_is_followed.ensures (shown c.args.state.now) P T h c.args.side c.args.name.now ∙ ap is_some (sym c.find.ensures.number)
