use Rattle.std.proofs.Common.{arith}
use Rattle.ucon_point.proofs.Digits.{with_digit-le, too_large}
use Rattle.ucon_point.proofs.words.digits_told.Goals as goal

pub returns-in_err-told-clause-number : goal.returns-in_err-told-clause-number
returns-in_err-told-clause-number c =
    too_large c.args.bytes.now c.from_residual.result c.from_residual.ensures
    (omega (arith, c.in_err-told.ensures.number, with_digit-le c.loop-b.told c.loop-b.b-index c.args.bytes.now c.loop-b-test.true c.loop-b.invariant.0))
