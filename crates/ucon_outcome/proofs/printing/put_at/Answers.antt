use Rattle.ucon_outcome.proofs.Out.{goes_behind}
use Rattle.ucon_outcome.proofs.printing.put_at.Goals as goal

pub returns : goal.returns
returns g c = goes_behind _ _ _ _ _ _ _ _ _ _ c.in_ok-put.ensures c.put_number.ensures
