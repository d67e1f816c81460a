use Rattle.std.proofs.Common.{◌≡◌, ◌++◌, length, map}
use Rattle.std.specs.Prelude.{option_map}
use Rattle.ucon_model.specs.ReplyText.{revoked_read}
use Rattle.ucon_reply.specs.Words.{word_of}
use Rattle.ucon_reply.proofs.reading.revoked.Given as goal

-- the rows so far and those of the rest are all
abbrev pub invariant-loop-rest : goal.invariant-loop-rest
invariant-loop-rest l = option_map (λ rs. l.rows.items ++ rs) (revoked_read (map word_of l.rest)) ≡ revoked_read (map word_of l.fn.words)

abbrev pub decreases-loop-rest : goal.decreases-loop-rest
decreases-loop-rest l = length l.rest
