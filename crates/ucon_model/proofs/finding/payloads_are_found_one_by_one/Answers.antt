use Rattle.ucon_model.proofs.FoundOn.{found_in-append}
use Rattle.ucon_model.proofs.finding.payloads_are_found_one_by_one.Goals as goal

pub returns : goal.returns
returns c = λ reads takes front rest. found_in-append reads takes rest front
