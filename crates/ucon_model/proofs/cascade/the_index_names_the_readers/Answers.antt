use Rattle.ucon_model.proofs.Firsts.{readers-exact}
use Rattle.ucon_model.proofs.cascade.the_index_names_the_readers.Goals as goal

pub returns : goal.returns
returns c = readers-exact
