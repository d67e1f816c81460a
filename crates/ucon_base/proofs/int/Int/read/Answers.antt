use Rattle.std.proofs.Common.{◌≡◌, option_and_then, sym, ◌∙◌, rules}
use Rattle.std.specs.Result.{result_ok}
use Rattle.ucon_base.specs.Reading.{integer_of, integer_read}
use Rattle.ucon_base.proofs.PlainNumbers.{same_integer}
use Rattle.ucon_base.proofs.int.Int.read.Goals as goal

pub returns-in_default-clause-value : goal.returns-in_default-clause-value
returns-in_default-clause-value c =
    let spelled : c.number-in_default.result ≡ option_and_then integer_of (result_ok (integer_read c.args.bytes.now)) = search rules in
    spelled ∙ sym (same_integer c.args.bytes.now)
