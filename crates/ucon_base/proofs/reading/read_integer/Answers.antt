use Rattle.std.proofs.Common.{sym}
use Rattle.ucon_base.proofs.PlainNumbers.{read_one}
use Rattle.ucon_base.proofs.reading.read_integer.Goals as goal

pub returns-in-Some : goal.returns-in-Some
returns-in-Some c = sym (read_one c.args.bytes.now c.in-Some.n (sym c.in-Some.ensures.integer))
