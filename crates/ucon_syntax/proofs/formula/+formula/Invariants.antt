use Rattle.std.proofs.Common.{◌≡◌, ◌+◌, ◌-◌, ◌*◌, ℕ}
use Rattle.ucon_model.specs.Views.{formula_of}
use Rattle.ucon_syntax.specs.Chains.{more}
use Rattle.ucon_syntax.specs.Formulas.{operators, operand_at, chain_at}
use Rattle.ucon_syntax.specs.declared.formula.Joint.{Joint}
use Rattle.ucon_syntax.specs.declared.formula.Joint.TheVariants as joints
use Rattle.ucon_syntax.proofs.formula.+formula.Given as goal

-- how far above its units a chain of this joint is
abbrev pub height : Joint → ℕ
height joints.And = 0
height joints.Or = 3

abbrev pub decreases-unit : goal.decreases-unit
decreases-unit l = 8 * l.room

abbrev pub decreases-not : goal.decreases-not
decreases-not l = 8 * l.room + 1

abbrev pub decreases-operand : goal.decreases-operand
decreases-operand l = 8 * l.room + height l.joint + 1

abbrev pub decreases-longer : goal.decreases-longer
decreases-longer l = 8 * l.room + height l.joint + 2

abbrev pub decreases-chain : goal.decreases-chain
decreases-chain l = 8 * l.room + height l.joint + 3

abbrev pub decreases-square : goal.decreases-square
decreases-square l = 8 * l.room + 7

abbrev pub invariant-chain-loop : goal.invariant-chain-loop
invariant-chain-loop l = (more (operators l.joint) (operand_at l.joint l.room) (32 - l.counter) (formula_of l.all) l.reader.tokens ≡ chain_at l.joint l.room l.fn.reader.tokens) × (l.reader.text ≡ l.fn.reader.text)
