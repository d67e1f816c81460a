use Rattle.std.proofs.Common.{◌∙◌, ap, sym, option_map}
use Rattle.ucon_state.specs.Shown.{shown}
use Rattle.ucon_engine.specs.ReadOff.{session_same}
use Rattle.ucon_engine.proofs.reading.session_state.Goals as goal

pub returns-clause-trace : goal.returns-clause-trace
returns-clause-trace c = λ P T h. ap (option_map (λ row. row.state)) (session_same c.tables_keep_what_is_followed.ensures (shown c.args.state.now) P T h c.args.n) ∙ sym c.session_state.ensures
