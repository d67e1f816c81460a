use Rattle.std.proofs.Common.{◌≡◌, ◌+◌, drop, sym, ap, ◌∙◌, arith, length-drop}
use Rattle.std.proofs.lemmas.List.{drop-drop}
use Rattle.ucon_model.specs.CommandLine.{words_of}
use Rattle.ucon_reply.proofs.Growing.{word_more, last_word, within_more}
use Rattle.ucon_reply.proofs.line_words.words.Goals as goal

pub loop-len-preserved : goal.loop-len-preserved
loop-len-preserved c =
    let rest = c.loop-len.rest.now in
    let next : c.split_at-in-Some.result.1.now ≡ drop (c.in-Some.len + 1) rest = c.split_at-in-Some.ensures.back ∙ ap (drop 1) c.split_at.ensures.back ∙ drop-drop 1 c.in-Some.len rest in
    record {
      words = word_more c.loop-len.words.items c.push.new.self.items _ rest c.split_at-in-Some.result.1.now c.in-Some.len (words_of c.args.line.now)
          c.in_ok-push.ensures.items c.split_at.ensures.front next (sym c.first_space.ensures.place ∙ c.in-Some.is) c.in-Some.ensures.within c.loop-len.invariant.words;
      within = within_more c.args.line.now c.loop-len.words.items c.push.new.self.items _ c.in_ok-push.ensures.items (omega (arith, c.loop-len.invariant.place)) c.loop-len.invariant.within;
      place = rw next (omega (arith, length-drop (c.in-Some.len + 1) rest, c.in-Some.ensures.within, c.loop-len.invariant.place));
    }

pub returns-clause-words : goal.returns-clause-words
returns-clause-words c =
    last_word c.loop-len.words.items c.push-2.new.self.items _ (words_of c.args.line.now) c.in_ok-push-2.ensures.items (sym c.first_space.ensures.place ∙ c.in_default.is) c.loop-len.invariant.words

pub returns-clause-within : goal.returns-clause-within
returns-clause-within c =
    within_more c.args.line.now c.loop-len.words.items c.push-2.new.self.items _ c.in_ok-push-2.ensures.items (omega (arith, c.loop-len.invariant.place)) c.loop-len.invariant.within
