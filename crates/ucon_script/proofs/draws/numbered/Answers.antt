use Rattle.std.proofs.Common.{◌≡◌, ◌∙◌, ap, sym, arith}
use Rattle.std.proofs.lemmas.Fmt.{decimal_digit}
use Rattle.ucon_script.proofs.draws.numbered.Goals as goal

pub returns : goal.returns
returns c = rw (decimal_digit c.args.digit c.requires.digit) c.name_of.ensures
