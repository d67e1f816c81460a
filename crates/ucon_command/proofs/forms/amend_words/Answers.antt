use Rattle.std.proofs.lemmas.Result.{err_from_is_err_and}
use Rattle.ucon_command.proofs.Amended.{amend_cut, amend_refused}
use Rattle.ucon_command.proofs.forms.amend_words.Goals as goal

pub returns-clause-cuts : goal.returns-clause-cuts
returns-clause-cuts c = amend_cut c.args.line.now c.args.second c.in-Some.policy _ c.requires.second c.in-Some.is c.last_word.ensures c.in_ok-amendment_word.field-0 c.in_ok-amendment_word.ensures

pub returns-in_err-amendment_word-clause-cuts : goal.returns-in_err-amendment_word-clause-cuts
returns-in_err-amendment_word-clause-cuts c =
    let p = err_from_is_err_and c.from_residual.result c.from_residual.ensures.1 in
    rw (p.1, p.2)
    (amend_refused c.args.line.now c.args.second c.in-Some.policy _ c.requires.second c.in-Some.is c.last_word.ensures c.in_err-amendment_word.field-0.0 c.in_err-amendment_word.ensures)
