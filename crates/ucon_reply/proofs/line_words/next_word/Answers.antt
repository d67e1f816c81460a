use Rattle.std.proofs.Common.{◌+◌, sym, ap, ◌∙◌}
use Rattle.std.specs.Prelude.{position, ◌==◌}
use Rattle.std.proofs.lemmas.List.{take_rest}
use Rattle.ucon_model.specs.Plain.{Bytes}
use Rattle.ucon_reply.proofs.Placed.{word_then, word_last, words_some}
use Rattle.ucon_reply.proofs.line_words.next_word.Goals as goal

pub returns-in-Some-clause-words : goal.returns-in-Some-clause-words
returns-in-Some-clause-words c =
    word_then c.args.line.now c.args.at c.in-Some.len _ (take_rest c.args.line.now c.args.at) (sym c.first_space.ensures.place ∙ c.in-Some.is) c.in-Some.ensures.within

pub returns-in-Some-clause-more : goal.returns-in-Some-clause-more
returns-in-Some-clause-more c = words_some c.args.line.now (c.args.at + c.in-Some.len + 1)

pub returns-in-None-clause-words : goal.returns-in-None-clause-words
returns-in-None-clause-words c =
    word_last c.args.line.now c.args.at (ap (λ (bs : Bytes). position (λ b. b == 32) bs) (sym (take_rest c.args.line.now c.args.at)) ∙ sym c.first_space.ensures.place ∙ c.in-None.is)
