use Rattle.std.proofs.Common.{arith}
use Rattle.ucon_base.proofs.WordBytes.{told}
use Rattle.ucon_base.proofs.bytes.is_word_byte.Goals as goal

pub returns : goal.returns
returns c = told c.args.b (omega (arith, c.ranges.b.fits))
