use Rattle.std.proofs.Common.{◌/◌, rules}
use Rattle.ucon_collections.proofs.SummaryLemmas.{bit-under_clear, IsLeastBit-under, IsLeastBit-first_word, bit-one_clear_word}
use Rattle.ucon_collections.proofs.levels.Levels.least.Goals as goal

pub returns-then-is_clear-clause-none : goal.returns-then-is_clear-clause-none
returns-then-is_clear-clause-none c =
    let sound = c.self.invariant in
    rw (← c.self.view_is) (λ n.
    bit-under_clear _ _ sound.words n
    (bit-under_clear _ _ sound.blocks (n / 64)
    (bit-under_clear _ _ sound.top (n / 64 / 64)
    (bit-one_clear_word _ sound.one_word (search rules) _))))

pub returns-clause-least : goal.returns-clause-least
returns-clause-least c =
    let sound = c.self.invariant in
    let region = IsLeastBit-first_word _ _ c.least_in-region.ensures in
    let block = IsLeastBit-under _ _ sound.top _ _ region c.least_in-block.ensures in
    let word = IsLeastBit-under _ _ sound.blocks _ _ block c.least_in-word.ensures in
    rw (← c.self.view_is) (IsLeastBit-under _ _ sound.words _ _ word c.least_in.ensures)
