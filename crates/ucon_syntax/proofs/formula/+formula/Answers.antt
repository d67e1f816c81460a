use Rattle.std.proofs.Common.{rules, ◌≡◌, true, ◌∙◌}
use Rattle.ucon_model.specs.Views.{formula_of}
use Rattle.ucon_token.specs.Tokens.{first, is_word}
use Rattle.ucon_syntax.specs.Formulas.{word_of, operators, operand_at}
use Rattle.ucon_syntax.proofs.Chains.{chain_longer}
use Rattle.ucon_syntax.proofs.formula.+formula.Goals as goal

pub chain-loop-preserved : goal.chain-loop-preserved
chain-loop-preserved t c =
    let is : is_word (first c.loop.reader.tokens) (word_of c.args.joint) ≡ true = rw (← c.first.ensures) (search rules) in
    (chain_longer (operators c.args.joint) (operand_at c.args.joint c.args.room) c.loop.counter (formula_of c.loop.all) (formula_of c.in_ok-all-2.all) c.loop.reader.tokens c.longer.new.reader.tokens _ c.loop-test.true is c.in_ok-all-2.ensures.read c.loop.invariant.0, c.in_ok-all-2.ensures.text ∙ c.loop.invariant.1)
