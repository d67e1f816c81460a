use Rattle.std.proofs.Common.{arith}
use Rattle.std.proofs.lemmas.Result.{err_from_is_err_and}
use Rattle.ucon_model.specs.CommandLine.{value_in}
use Rattle.ucon_command.proofs.Judged.{set_cut, set_sure, sure_said, known_name, named, kind_said, place_said}
use Rattle.ucon_command.proofs.forms.set_words.Goals as goal

pub returns : goal.returns
returns c =
    let line = c.args.line.now in
    let b = c.in-Some.p.name in
    let e = c.in-Some.p.attr in
    let d = c.in-Some.p.value in
    let within = c.in-Some.ensures.within in
    set_cut line _ _ c.in-Some.p.side b e d c.in_ok-side.side c.in_ok-value_word.field-0 c.requires.second.words c.in-Some.ensures.words
    (place_said c.in_ok-side.side _ _ _ _ _ _ c.word_between.ensures c.word_between-2.ensures c.word_between-3.ensures c.in_ok-side.ensures.read)
    (kind_said value_in c.in_ok-value_word.field-0 _ _ c.last_word.ensures c.in_ok-value_word.ensures) (
      known_name line b e within.1 (omega (arith, within)) (named _ _ c.word_between-2.ensures c.in_ok-side.ensures.names.0),
      known_name line e d within.2 within.3 (named _ _ c.word_between-3.ensures c.in_ok-side.ensures.names.1),
    )

pub returns-in_err-value_word : goal.returns-in_err-value_word
returns-in_err-value_word c =
    let line = c.args.line.now in
    let p = err_from_is_err_and c.from_residual-in_err-value_word.result c.from_residual-in_err-value_word.ensures.1 in
    rw (p.1, p.2)
    (set_sure line _ _ c.in-Some.p.side c.in-Some.p.name c.in-Some.p.attr c.in-Some.p.value c.in_ok-side.side c.in_err-value_word.field-0.0 c.requires.second.words c.in-Some.ensures.words
    (place_said c.in_ok-side.side _ _ _ _ _ _ c.word_between.ensures c.word_between-2.ensures c.word_between-3.ensures c.in_ok-side.ensures.read)
    (sure_said _ _ _ c.last_word.ensures c.in_err-value_word.ensures))
