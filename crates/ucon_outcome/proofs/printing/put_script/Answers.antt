use Rattle.ucon_outcome.proofs.Out.{goes_behind, goes_cut}
use Rattle.ucon_outcome.proofs.printing.put_script.Goals as goal

pub returns-in_err-put : goal.returns-in_err-put
returns-in_err-put g c = goes_cut _ _ _ _ _ _ _ _ c.from_residual.ensures.0 c.in_err-put.ensures

pub returns : goal.returns
returns g c = goes_behind _ _ _ _ _ _ _ _ _ _ c.in_ok-put.ensures c.put_script_fault.ensures
