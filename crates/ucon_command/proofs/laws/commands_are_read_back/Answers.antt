use Rattle.ucon_syntax.specs.Policies.{accepted}
use Rattle.ucon_command.proofs.InLine.{command_in_line}
use Rattle.ucon_command.proofs.Lengths.{short}
use Rattle.ucon_command.proofs.LowerLaws.{TextsLack, WordsAreRead, WordsAreSpelled}
use Rattle.ucon_command.proofs.ReadLines.{Accepts, command_back}
use Rattle.ucon_command.proofs.SpelledLines.{command_is}
use Rattle.ucon_command.proofs.laws.commands_are_read_back.Goals as goal

pub returns : goal.returns
returns c =
    let accepts : Accepts accepted = λ text p spells typed. (c.accepted_texts_spell_typed_policies.ensures text p).1 (spells, typed) in
    let texts = c.texts_lack_bytes.ensures in
    let lack : TextsLack = record { joined = texts.joined; tested = texts.tested; numbers = texts.numbers; names = texts.names } in
    let words = c.words_are_read_back.ensures in
    let read : WordsAreRead = record { values = words.values_written; integers = words.integers_written; numbers = words.numbers_written } in
    let spelled : WordsAreSpelled = record { values = words.values_read; integers = words.integers_read; numbers = words.numbers_read } in
    let values = c.values_fit_lines.ensures in
    record {
      written = command_back read (short values.short) lack accepted accepts;
      read = command_is spelled accepted;
      short = short values.short;
      one_line = command_in_line lack values.one_line;
    }
