use Rattle.std.proofs.Common.{◌∙◌, sym}
use Rattle.std.proofs.lemmas.Bool.{false≢true}
use Rattle.ucon_point.proofs.Digits.{count_found, count_large, count_other}
use Rattle.ucon_point.proofs.words.count_in.Goals as goal

pub returns-then-is_decimal_of : goal.returns-then-is_decimal_of
returns-then-is_decimal_of c = count_found c.args.bytes.now c.in_ok-n.n c.in_ok-n.ensures.small (c.is_decimal_of.ensures.0 c.if-is_decimal_of.true)

pub returns-in_err-n : goal.returns-in_err-n
returns-in_err-n c = c.from_residual.ensures ∙ count_large c.args.bytes.now c.in_err-n.ensures.number

pub returns-else-is_decimal_of : goal.returns-else-is_decimal_of
returns-else-is_decimal_of c =
    count_other c.args.bytes.now c.in_ok-n.n c.in_ok-n.ensures.number (λ same. false≢true (sym c.if-is_decimal_of.false ∙ c.is_decimal_of.ensures.1 same))
