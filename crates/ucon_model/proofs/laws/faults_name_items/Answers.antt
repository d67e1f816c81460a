use Rattle.ucon_model.proofs.Numbering.{fault_names_item}
use Rattle.ucon_model.proofs.laws.faults_name_items.Goals as goal

pub returns : goal.returns
returns c = fault_names_item
