use Rattle.ucon_model.specs.CommandLine.{integer_in}
use Rattle.ucon_command.proofs.Judged.{integer_cut, kind_said}
use Rattle.ucon_command.proofs.forms.one_integer.Goals as goal

pub returns : goal.returns
returns c =
    integer_cut c.args.line.now _ _ c.in-Some.tick c.in_ok-integer_word.field-0 c.requires.second.words c.in-Some.ensures.1
    (kind_said integer_in c.in_ok-integer_word.field-0 _ _ c.last_word.ensures c.in_ok-integer_word.ensures) c.in-Some.ensures.0
