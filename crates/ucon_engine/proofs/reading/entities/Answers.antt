use Rattle.std.proofs.Common.{◌≡◌, rules, length}
use Rattle.ucon_base.specs.declared.value.Side.TheVariants.{Subject, Object}
use Rattle.ucon_model.specs.Readings.{entities}
use Rattle.ucon_state.specs.Shown.{shown}
use Rattle.ucon_state.specs.Tables.{entities_of}
use Rattle.ucon_engine.specs.ReadOff.{entities_same}
use Rattle.ucon_engine.proofs.reading.entities.Goals as goal

pub returns-in-Subject-clause-trace : goal.returns-in-Subject-clause-trace
returns-in-Subject-clause-trace c = λ P T h. let same : entities Subject T ≡ length (entities_of Subject (shown c.args.state.now).tables) = entities_same c.tables_keep_what_is_followed.ensures (shown c.args.state.now) P T h Subject in search rules

pub returns-in-Object-clause-trace : goal.returns-in-Object-clause-trace
returns-in-Object-clause-trace c = λ P T h. let same : entities Object T ≡ length (entities_of Object (shown c.args.state.now).tables) = entities_same c.tables_keep_what_is_followed.ensures (shown c.args.state.now) P T h Object in search rules
