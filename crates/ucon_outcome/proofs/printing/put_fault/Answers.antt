use Rattle.ucon_outcome.proofs.Out.{its_line}
use Rattle.ucon_outcome.proofs.printing.put_fault.Goals as goal

pub returns : goal.returns
returns g c = rw (its_line c.args.outcome.now c.in_default.not-Done) c.put_line.ensures
