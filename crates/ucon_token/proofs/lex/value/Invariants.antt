use Rattle.std.proofs.Common.{◌≡◌, ◌≤◌, length}
use Rattle.ucon_base.specs.Tokens.{value_from}
use Rattle.ucon_token.proofs.lex.value.Given as goal

abbrev pub invariant-loop-left : goal.invariant-loop-left
invariant-loop-left l = (value_from l.v l.left ≡ value_from 0 l.fn.digits) × (l.v ≤ 1000000000000000)

abbrev pub decreases-loop-left : goal.decreases-loop-left
decreases-loop-left l = length l.left
