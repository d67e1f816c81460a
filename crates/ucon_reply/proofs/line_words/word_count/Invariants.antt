use Rattle.std.proofs.Common.{◌≡◌, ◌+◌, ◌-◌, ◌≤◌, length}
use Rattle.ucon_model.specs.CommandLine.{words_of}
use Rattle.ucon_reply.specs.Words.{words_at}
use Rattle.ucon_reply.proofs.line_words.word_count.Given as goal

-- the words before a place and those from there on are all
abbrev pub invariant-loop-next : goal.invariant-loop-next
invariant-loop-next l = record {
  counted : l.count + length (words_at l.at l.line) ≡ length (words_of l.line) + 1;
  place : l.at ≤ length l.line;
  few : l.count ≤ l.at + 1;
}

abbrev pub decreases-loop-next : goal.decreases-loop-next
decreases-loop-next l = length l.line - l.at
