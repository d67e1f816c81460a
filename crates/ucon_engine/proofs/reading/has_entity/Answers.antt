use Rattle.std.proofs.Common.{rules}
use Rattle.ucon_state.specs.Shown.{shown}
use Rattle.ucon_engine.specs.ReadOff.{entity_there}
use Rattle.ucon_engine.proofs.reading.has_entity.Goals as goal

pub returns-clause-trace : goal.returns-clause-trace
returns-clause-trace c = λ P T h. let there = entity_there c.tables_keep_what_is_followed.ensures (shown c.args.state.now) P T h c.args.side c.args.name.now in rw there (search rules)
