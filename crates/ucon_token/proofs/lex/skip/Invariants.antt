use Rattle.std.proofs.Common.{◌≡◌, length, false}
use Rattle.ucon_base.specs.Tokens.{skip}
use Rattle.ucon_token.proofs.lex.skip.Given as goal

abbrev pub invariant-loop-left : goal.invariant-loop-left
invariant-loop-left l = skip l.inside l.left ≡ skip false l.fn.bytes

abbrev pub decreases-loop-left : goal.decreases-loop-left
decreases-loop-left l = length l.left
