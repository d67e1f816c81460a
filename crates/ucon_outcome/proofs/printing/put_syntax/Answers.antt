use Rattle.ucon_outcome.proofs.printing.put_syntax.Goals as goal

pub returns-in-UnknownByte : goal.returns-in-UnknownByte
returns-in-UnknownByte g c = rw c.in-UnknownByte.is c.put_at.ensures

pub returns-in-Unexpected : goal.returns-in-Unexpected
returns-in-Unexpected g c = rw c.in-Unexpected.is c.put_at-in-Unexpected.ensures
