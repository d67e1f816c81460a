use Rattle.ucon_model.proofs.Turns.{settle-over, settle-turn}
use Rattle.ucon_model.proofs.cascade.settling_goes_turn_by_turn.Goals as goal

pub returns-clause-over : goal.returns-clause-over
returns-clause-over c = settle-over

pub returns-clause-turn : goal.returns-clause-turn
returns-clause-turn c = settle-turn
