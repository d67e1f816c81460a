use Rattle.std.proofs.Common.{sym, ap}
use Rattle.std.specs.Prelude.{option_map}
use Rattle.ucon_state.specs.Numbers.{names_of}
use Rattle.ucon_state.specs.Shown.{right_names}
use Rattle.ucon_state.specs.Views.{lists_of}
use Rattle.ucon_state.proofs.Numbered.{row_is}
use Rattle.ucon_state.proofs.state.State.numbers.Goals as goal

pub returns : goal.returns
returns c =
    let R = right_names c.args.self.now in
    let t = lists_of c.args.self.now.tables in
    sym (ap (option_map names_of) (row_is R t c.args.session c.in_ok-session.session.now (sym c.in_ok-session.ensures)))
