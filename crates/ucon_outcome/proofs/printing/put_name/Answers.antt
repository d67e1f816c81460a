use Rattle.ucon_outcome.proofs.Out.{goes_behind}
use Rattle.ucon_outcome.proofs.printing.put_name.Goals as goal

pub returns : goal.returns
returns g c = rw (← c.bytes.ensures.bytes) (goes_behind _ _ _ _ _ _ _ _ _ _ c.in_ok-put.ensures c.put-2.ensures)
