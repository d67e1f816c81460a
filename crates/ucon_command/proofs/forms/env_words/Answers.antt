use Rattle.std.proofs.lemmas.Result.{err_from_is_err_and}
use Rattle.ucon_model.specs.CommandLine.{value_in}
use Rattle.ucon_command.proofs.Judged.{env_cut, env_sure, sure_said, known_name, name_said, named, kind_said}
use Rattle.ucon_command.proofs.forms.env_words.Goals as goal

pub returns : goal.returns
returns c =
    let line = c.args.line.now in
    let a = c.in-Some.a in
    let b = c.in-Some.b in
    env_cut line _ _ a b c.in_ok-value_word.field-0 c.requires.second.words c.in-Some.ensures.words
    (name_said _ _ c.word_between.ensures c.in_ok-name_word.ensures.said)
    (kind_said value_in c.in_ok-value_word.field-0 _ _ c.last_word.ensures c.in_ok-value_word.ensures)
    (known_name line a b c.in-Some.ensures.within.0 c.in-Some.ensures.within.1 (named _ _ c.word_between.ensures c.in_ok-name_word.ensures.name))

pub returns-in_err-value_word : goal.returns-in_err-value_word
returns-in_err-value_word c =
    let line = c.args.line.now in
    let p = err_from_is_err_and c.from_residual-in_err-value_word.result c.from_residual-in_err-value_word.ensures.1 in
    rw (p.1, p.2)
    (env_sure line _ _ c.in-Some.a c.in-Some.b c.in_err-value_word.field-0.0 c.requires.second.words c.in-Some.ensures.words
    (name_said _ _ c.word_between.ensures c.in_ok-name_word.ensures.said) (sure_said _ _ _ c.last_word.ensures c.in_err-value_word.ensures))
