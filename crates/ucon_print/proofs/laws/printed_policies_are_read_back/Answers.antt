-- The printing is put together as the grammar has it, so it is read as what was meant.
use Rattle.ucon_print.proofs.Policies.{printed_spells}
use Rattle.ucon_print.proofs.laws.printed_policies_are_read_back.Goals as goal

pub returns : goal.returns
returns c = λ p is. printed_spells p is
