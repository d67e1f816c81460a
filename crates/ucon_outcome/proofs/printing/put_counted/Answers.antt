use Rattle.ucon_outcome.proofs.Out.{goes_behind, goes_cut}
use Rattle.ucon_outcome.proofs.printing.put_counted.Goals as goal

pub returns-in_err-put-2 : goal.returns-in_err-put-2
returns-in_err-put-2 g c =
    rw (← c.bytes.ensures.bytes) (goes_behind _ _ _ _ _ _ _ _ _ _ c.in_ok-put.ensures (goes_cut _ _ _ _ _ _ _ _ c.from_residual-in_err-put-2.ensures.0 c.in_err-put-2.ensures))

pub returns : goal.returns
returns g c = rw (← c.bytes.ensures.bytes) (goes_behind _ _ _ _ _ _ _ _ _ _ c.in_ok-put.ensures (goes_behind _ _ _ _ _ _ _ _ _ _ c.in_ok-put-2.ensures c.put_at.ensures))
