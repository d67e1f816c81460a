use Rattle.std.proofs.Common.{rules}
use Rattle.ucon_state.specs.Shown.{shown}
use Rattle.ucon_engine.specs.ReadOff.{acts_same}
use Rattle.ucon_engine.proofs.reading.acts.Goals as goal

pub returns-clause-trace : goal.returns-clause-trace
returns-clause-trace c = λ P T h. rw (acts_same c.tables_keep_what_is_followed.ensures (shown c.args.state.now) P T h) (search rules)
