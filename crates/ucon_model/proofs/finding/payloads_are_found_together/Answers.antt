use Rattle.ucon_model.proofs.Batched.{found_together, taken_more, taken_as}
use Rattle.ucon_model.proofs.finding.payloads_are_found_together.Goals as goal

pub returns-clause-found : goal.returns-clause-found
returns-clause-found c = found_together

pub returns-clause-more : goal.returns-clause-more
returns-clause-more c = taken_more

pub returns-clause-steps : goal.returns-clause-steps
returns-clause-steps c = taken_as
