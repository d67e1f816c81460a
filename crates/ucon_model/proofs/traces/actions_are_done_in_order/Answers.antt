use Rattle.ucon_model.proofs.Extending.{extended-append}
use Rattle.ucon_model.proofs.traces.actions_are_done_in_order.Goals as goal

pub returns : goal.returns
returns c = extended-append
