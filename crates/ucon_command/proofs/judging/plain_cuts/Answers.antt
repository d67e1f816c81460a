use Rattle.std.proofs.Common.{sym, ap, ◌∙◌}
use Rattle.std.proofs.lemmas.List.{take_rest}
use Rattle.ucon_model.specs.CommandLine.{integer_in, number_in}
use Rattle.ucon_command.proofs.Plain.{again, beat, end_, tick}
use Rattle.ucon_command.proofs.judging.plain_cuts.Goals as goal

pub returns-then-starts_with : goal.returns-then-starts_with
returns-then-starts_with c =
    beat c.commands_are_read_back.ensures.written c.words_are_read_back.ensures.numbers_read c.args.line.now c.in_ok-number_in.field-0
    (sym c.starts_with.ensures.value ∙ c.if-starts_with.true) (ap number_in (sym (take_rest c.args.line.now 5)) ∙ sym c.in_ok-number_in.ensures.number) c.in_ok-number_in.ensures.few

pub returns-then-starts_with-2 : goal.returns-then-starts_with-2
returns-then-starts_with-2 c =
    again c.commands_are_read_back.ensures.written c.words_are_read_back.ensures.numbers_read c.args.line.now c.in_ok-number_in-2.field-0
    (sym c.starts_with-2.ensures.value ∙ c.if-starts_with-2.true) (ap number_in (sym (take_rest c.args.line.now 6)) ∙ sym c.in_ok-number_in-2.ensures.number) c.in_ok-number_in-2.ensures.few

pub returns-then-starts_with-3 : goal.returns-then-starts_with-3
returns-then-starts_with-3 c =
    end_ c.commands_are_read_back.ensures.written c.words_are_read_back.ensures.numbers_read c.args.line.now c.in_ok-number_in-3.field-0
    (sym c.starts_with-3.ensures.value ∙ c.if-starts_with-3.true) (ap number_in (sym (take_rest c.args.line.now 4)) ∙ sym c.in_ok-number_in-3.ensures.number) c.in_ok-number_in-3.ensures.few

pub returns-then-starts_with-4 : goal.returns-then-starts_with-4
returns-then-starts_with-4 c =
    tick c.commands_are_read_back.ensures.written c.words_are_read_back.ensures.integers_read c.args.line.now c.in_ok-read.field-0
    (sym c.starts_with-4.ensures.value ∙ c.if-starts_with-4.true) (ap integer_in (sym (take_rest c.args.line.now 5)) ∙ sym c.in_ok-read.ensures.value) c.in_ok-read.ensures.in_range
