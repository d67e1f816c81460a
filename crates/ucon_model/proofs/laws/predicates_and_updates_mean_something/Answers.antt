use Rattle.ucon_model.proofs.Meaningful.{predicates_mean, updates_mean}
use Rattle.ucon_model.proofs.laws.predicates_and_updates_mean_something.Goals as goal

pub returns : goal.returns
returns c = record { predicates = predicates_mean; updates = updates_mean }
