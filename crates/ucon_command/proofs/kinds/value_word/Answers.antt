use Rattle.std.proofs.lemmas.Result.{err_from_is_err_and}
use Rattle.ucon_command.proofs.Refusals.{some_said}
use Rattle.ucon_command.proofs.kinds.value_word.Goals as goal

pub returns-in_err-value_in : goal.returns-in_err-value_in
returns-in_err-value_in c =
    let p = err_from_is_err_and c.from_residual.result c.from_residual.ensures.1 in
    rw (p.1, p.2) (some_said _ _ c.in_err-value_in.ensures.sure)
