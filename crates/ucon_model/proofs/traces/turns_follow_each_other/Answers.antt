use Rattle.ucon_model.proofs.WithinTurns.{settle_within-last, settled_to-more, revoked_in-more, settle_within-done}
use Rattle.ucon_model.proofs.traces.turns_follow_each_other.Goals as goal

pub returns-clause-more : goal.returns-clause-more
returns-clause-more c = settle_within-last

pub returns-clause-trace : goal.returns-clause-trace
returns-clause-trace c = settled_to-more

pub returns-clause-revokes : goal.returns-clause-revokes
returns-clause-revokes c = revoked_in-more

pub returns-clause-done : goal.returns-clause-done
returns-clause-done c = λ i k P T. settle_within-done i P T k
