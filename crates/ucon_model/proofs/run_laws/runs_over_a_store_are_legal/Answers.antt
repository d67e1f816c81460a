use Rattle.ucon_model.proofs.StoredRuns.{stored-legal, stored-made, stored-failed}
use Rattle.ucon_model.proofs.run_laws.runs_over_a_store_are_legal.Goals as goal

pub returns : goal.returns
returns c = record { legal = stored-legal; made = stored-made; failed = stored-failed }
