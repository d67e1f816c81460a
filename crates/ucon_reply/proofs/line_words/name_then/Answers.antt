use Rattle.std.proofs.Common.{◌+◌, ◌-◌, length, take, drop, sym, ap, ◌∙◌}
use Rattle.std.specs.Prelude.{position, ◌==◌}
use Rattle.std.proofs.lemmas.List.{take_rest}
use Rattle.ucon_model.specs.Plain.{Bytes}
use Rattle.ucon_reply.proofs.Named.{none_is_space, space_is_first, all_before}
use Rattle.ucon_reply.proofs.Placed.{word_then, word_last, words_some}
use Rattle.ucon_reply.proofs.line_words.name_then.Goals as goal

pub is_named-requires-in-Some : goal.is_named-requires-in-Some
is_named-requires-in-Some c = all_before (take (length c.args.line.now - c.args.at) (drop c.args.at c.args.line.now)) c.in-Some.len (sym c.first_other.ensures.place ∙ c.in-Some.is)

pub returns-in-None-clause-words : goal.returns-in-None-clause-words
returns-in-None-clause-words c =
    word_last c.args.line.now c.args.at
    (ap (λ (bs : Bytes). position (λ b. b == 32) bs) (sym (take_rest c.args.line.now c.args.at)) ∙ none_is_space (take (length c.args.line.now - c.args.at) (drop c.args.at c.args.line.now)) (sym c.first_other.ensures.place ∙ c.in-None.is))

pub returns-in-Some-clause-words : goal.returns-in-Some-clause-words
returns-in-Some-clause-words c =
    word_then c.args.line.now c.args.at c.in-Some.len _ (take_rest c.args.line.now c.args.at)
    (space_is_first (take (length c.args.line.now - c.args.at) (drop c.args.at c.args.line.now)) c.in-Some.len (sym c.first_other.ensures.place ∙ c.in-Some.is) c.if-rest-len-eq32.true) c.in-Some.ensures.within

pub returns-in-Some-clause-more : goal.returns-in-Some-clause-more
returns-in-Some-clause-more c = words_some c.args.line.now (c.args.at + c.in-Some.len + 1)
