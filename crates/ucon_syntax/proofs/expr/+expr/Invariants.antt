use Rattle.std.proofs.Common.{◌≡◌, ◌+◌, ◌-◌, ◌*◌, ℕ}
use Rattle.ucon_model.specs.Views.{expr_of}
use Rattle.ucon_syntax.specs.Chains.{more}
use Rattle.ucon_syntax.specs.Expressions.{operators, operand_at, chain_at}
use Rattle.ucon_syntax.specs.declared.expr.Joint.{Joint}
use Rattle.ucon_syntax.specs.declared.expr.Joint.TheVariants as joints
use Rattle.ucon_syntax.proofs.expr.+expr.Given as goal

-- how far above its factors a chain of this joint is
abbrev pub height : Joint → ℕ
height joints.Star = 0
height joints.Sign = 3

abbrev pub decreases-factor : goal.decreases-factor
decreases-factor l = 9 * l.room

abbrev pub decreases-operand : goal.decreases-operand
decreases-operand l = 9 * l.room + height l.joint + 1

abbrev pub decreases-longer : goal.decreases-longer
decreases-longer l = 9 * l.room + height l.joint + 2

abbrev pub decreases-chain : goal.decreases-chain
decreases-chain l = 9 * l.room + height l.joint + 3

abbrev pub decreases-round : goal.decreases-round
decreases-round l = 9 * l.room + 7

abbrev pub invariant-chain-loop : goal.invariant-chain-loop
invariant-chain-loop l = (more (operators l.joint) (operand_at l.joint l.room) (32 - l.counter) (expr_of l.all) l.reader.tokens ≡ chain_at l.joint l.room l.fn.reader.tokens) × (l.reader.text ≡ l.fn.reader.text)

abbrev pub decreases-size : goal.decreases-size
decreases-size l = 9 * l.room + 8
