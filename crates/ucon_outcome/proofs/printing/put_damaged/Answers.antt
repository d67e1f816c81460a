use Rattle.ucon_outcome.proofs.Out.{goes_behind, goes_cut}
use Rattle.ucon_outcome.proofs.printing.put_damaged.Goals as goal

pub returns-in_err-put_at : goal.returns-in_err-put_at
returns-in_err-put_at g c = goes_cut _ _ _ _ _ _ _ _ c.from_residual.ensures.0 c.in_err-put_at.ensures

pub returns : goal.returns
returns g c = goes_behind _ _ _ _ _ _ _ _ _ _ c.in_ok-put_at.ensures c.put_at-2.ensures
