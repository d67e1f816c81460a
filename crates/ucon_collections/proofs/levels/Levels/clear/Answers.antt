use Rattle.std.proofs.Common.{◌≡◌, ◌∙◌, rules}
use Rattle.ucon_collections.specs.Bits.{bit}
use Rattle.ucon_collections.proofs.SummaryLemmas.{bit-upper_set, Summarizes-clear, Summarizes-left}
use Rattle.ucon_collections.proofs.levels.Levels.clear.Goals as goal

pub invariant_of-self-then-not-is_clear-2 : goal.invariant_of-self-then-not-is_clear-2
invariant_of-self-then-not-is_clear-2 c =
    let before = c.self.invariant in
    let number_set : bit c.self.inside.numbers c.args.n ≡ 1 = rw c.self.view_is c.requires in
    let word_set = bit-upper_set _ _ before.words _ number_set in
    record {
      words = Summarizes-clear _ _ before.words _ _ c.args.n c.clear.ensures (search rules) c.clear-2.ensures;
      blocks = Summarizes-left _ _ before.blocks _ _ word_set c.clear-2.ensures (search rules);
      top = before.top;
      one_word = before.one_word;
    }

pub invariant_of-self-then-is_clear : goal.invariant_of-self-then-is_clear
invariant_of-self-then-is_clear c =
    let before = c.self.invariant in
    record {
      words = Summarizes-clear _ _ before.words _ _ c.args.n c.clear.ensures (search rules) c.clear-2.ensures;
      blocks = Summarizes-clear _ _ before.blocks _ _ _ c.clear-2.ensures (search rules) c.clear-3.ensures;
      top = Summarizes-clear _ _ before.top _ _ _ c.clear-3.ensures (search rules) c.clear-then-is_clear.ensures;
      one_word = c.clear-then-is_clear.ensures.same_length ∙ before.one_word;
    }

pub invariant_of-self-else-is_clear : goal.invariant_of-self-else-is_clear
invariant_of-self-else-is_clear c =
    let before = c.self.invariant in
    let number_set : bit c.self.inside.numbers c.args.n ≡ 1 = rw c.self.view_is c.requires in
    let word_set = bit-upper_set _ _ before.words _ number_set in
    let block_set = bit-upper_set _ _ before.blocks _ word_set in
    record {
      words = Summarizes-clear _ _ before.words _ _ c.args.n c.clear.ensures (search rules) c.clear-2.ensures;
      blocks = Summarizes-clear _ _ before.blocks _ _ _ c.clear-2.ensures (search rules) c.clear-3.ensures;
      top = Summarizes-left _ _ before.top _ _ block_set c.clear-3.ensures (search rules);
      one_word = before.one_word;
    }
