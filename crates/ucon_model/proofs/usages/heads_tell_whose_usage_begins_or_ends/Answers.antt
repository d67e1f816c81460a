use Rattle.ucon_model.proofs.OwnUsages.{others_stay, revoked_is_over, usage_told}
use Rattle.ucon_model.proofs.usages.heads_tell_whose_usage_begins_or_ends.Goals as goal

pub returns-clause-own : goal.returns-clause-own
returns-clause-own c = usage_told

pub returns-clause-revoked : goal.returns-clause-revoked
returns-clause-revoked c = revoked_is_over

pub returns-clause-others : goal.returns-clause-others
returns-clause-others c = others_stay
