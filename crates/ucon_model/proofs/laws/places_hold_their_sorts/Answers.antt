use Rattle.ucon_model.proofs.SortsOfValues.{places_fit}
use Rattle.ucon_model.proofs.laws.places_hold_their_sorts.Goals as goal

pub returns : goal.returns
returns c = places_fit
