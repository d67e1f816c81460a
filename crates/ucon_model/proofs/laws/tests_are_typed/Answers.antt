use Rattle.ucon_model.proofs.TypedParts.{typed_predicates}
use Rattle.ucon_model.proofs.laws.tests_are_typed.Goals as goal

pub returns : goal.returns
returns c = typed_predicates
