use Rattle.ucon_model.proofs.GoingOn.{behind-failed, behind-legal, behind-made}
use Rattle.ucon_model.proofs.run_laws.legal_runs_go_on.Goals as goal

pub returns : goal.returns
returns c = record { legal = behind-legal; made = behind-made; failed = behind-failed }
