use Rattle.ucon_model.proofs.SerialRuns.{serial-legal}
use Rattle.ucon_model.proofs.run_laws.serial_runs_are_legal.Goals as goal

pub returns : goal.returns
returns c = serial-legal
