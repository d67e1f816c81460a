use Rattle.std.proofs.Common.{◌≡◌, ◌+◌, ◌++◌, length, map}
use Rattle.std.specs.Prelude.{◌==◌}
use Rattle.std.specs.List.{slice_split}
use Rattle.ucon_model.specs.CommandLine.{placed, words_of}
use Rattle.ucon_reply.specs.Words.{word_of, BeginWithin}
use Rattle.ucon_reply.proofs.line_words.words.Given as goal

-- the words so far and those of the rest are those of the line
abbrev pub invariant-loop-len : goal.invariant-loop-len
invariant-loop-len l = record {
  words : map word_of l.words.items ++ placed l.at (slice_split (λ b. b == 32) l.rest) ≡ words_of l.fn.line;
  within : BeginWithin l.fn.line l.words.items;
  place : l.at + length l.rest ≡ length l.fn.line;
}

abbrev pub decreases-loop-len : goal.decreases-loop-len
decreases-loop-len l = length l.rest
