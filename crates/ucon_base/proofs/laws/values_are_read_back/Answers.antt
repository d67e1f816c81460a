use Rattle.ucon_base.proofs.Values.{value_back, value_is}
use Rattle.ucon_base.proofs.laws.values_are_read_back.Goals as goal

pub returns : goal.returns
returns c = record { written = value_back; read = value_is }
