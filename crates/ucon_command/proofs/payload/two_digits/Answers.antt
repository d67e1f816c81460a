use Rattle.std.proofs.Common.{Some, ap, arith, ⊎_elim}
use Rattle.ucon_command.proofs.Payloads.{digits_are}
use Rattle.ucon_command.proofs.payload.two_digits.Goals as goal

pub returns-in-len1 : goal.returns-in-len1
returns-in-len1 c = λ n lt e. ap Some (⊎_elim
    (λ one. omega (arith, one.1, c.digit.ensures.value))
    (λ two. absurd (omega (arith, two.0, c.in-len1.len_below)))
    (digits_are n c.args.bytes.now lt e))

pub returns-in-len2 : goal.returns-in-len2
returns-in-len2 c = λ n lt e. ap Some (⊎_elim
    (λ one. absurd (omega (arith, one.0, c.in-len2.len_at_least)))
    (λ two. omega (arith, two.1, c.digit-in-len2.ensures.value, c.digit-in-len2-2.ensures.value))
    (digits_are n c.args.bytes.now lt e))

pub returns-in_default : goal.returns-in_default
returns-in_default c = λ n lt e. absurd (⊎_elim
    (λ one. omega (arith, one.0, c.in_default.len_below))
    (λ two. omega (arith, two.0, c.in_default.len_below))
    (digits_are n c.args.bytes.now lt e))

pub returns-in_default-2 : goal.returns-in_default-2
returns-in_default-2 c = λ n lt e. absurd (⊎_elim
    (λ one. omega (arith, one.0, c.in_default.len_at_least))
    (λ two. omega (arith, two.0, c.in_default.len_at_least))
    (digits_are n c.args.bytes.now lt e))
