use Rattle.std.proofs.Common.{rules}
use Rattle.ucon_state.specs.Shown.{shown}
use Rattle.ucon_engine.specs.ReadOff.{moment_same}
use Rattle.ucon_engine.proofs.reading.moment.Goals as goal

pub returns-clause-trace : goal.returns-clause-trace
returns-clause-trace c = λ P T h. rw (moment_same c.tables_keep_what_is_followed.ensures (shown c.args.state.now) P T h c.args.subject.now c.args.action.now c.args.object.now) (search rules)
