use Rattle.std.proofs.Common.{◌∙◌, sym, ap, position}
use Rattle.std.specs.Str.{bytes_eq}
use Rattle.ucon_state.specs.Shown.{right_names}
use Rattle.ucon_state.proofs.Numbered.{right_of_number}
use Rattle.ucon_state.proofs.state.State.right_number.Goals as goal

pub returns-clause-named : goal.returns-clause-named
returns-clause-named c =
    right_of_number (right_names c.add_right.new.self) c.args.name c.in-Some.number
    (sym (c.number_of.ensures ∙ ap (position (bytes_eq c.args.name)) c.deref.ensures.value) ∙ c.in-Some.is)
