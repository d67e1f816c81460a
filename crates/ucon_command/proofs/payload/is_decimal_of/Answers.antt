use Rattle.std.proofs.Common.{rules, ◌≡◌, ◌+◌, ◌/◌, ◌%◌, ◌<◌, ◌≤◌, ◌∷◌, [], ap, ◌∙◌, arith}
use Rattle.std.specs.Str.{bytes_eq}
use Rattle.ucon_command.proofs.Payloads.{both_digits, decimal_by, one_digit}
use Rattle.ucon_command.proofs.payload.is_decimal_of.Goals as goal

pub returns-then-n-lt10 : goal.returns-then-n-lt10
returns-then-n-lt10 c =
    let n = c.args.n in
    let few : n < 10 = c.if-n-lt10.true in
    let digit : n ≡ n % 10 = omega (arith, few) in
    let by : c.eq.result ≡ bytes_eq c.args.bytes.now ((48 + n % 10) ∷ []) = search rules in
    decimal_by n c.args.bytes.now ((48 + n % 10) ∷ []) c.eq.result (one_digit n few ∙ ap (λ d. (48 + d) ∷ []) digit) by

pub returns : goal.returns
returns c =
    let n = c.args.n in
    let many : 10 ≤ n = c.if-n-lt10.false in
    let by : c.eq-2.result ≡ bytes_eq c.args.bytes.now ((48 + n / 10) ∷ (48 + n % 10) ∷ []) = search rules in
    decimal_by n c.args.bytes.now ((48 + n / 10) ∷ (48 + n % 10) ∷ []) c.eq-2.result (both_digits n many c.requires) by
