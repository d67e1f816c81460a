use Rattle.ucon_script.proofs.Generating.{AreReadBack, policy_is, says, short}
use Rattle.ucon_script.proofs.laws.generated_documents_are_read.Goals as goal

pub returns : goal.returns
returns c =
    let back : AreReadBack = record { written = c.commands_are_read_back.ensures.written; one_line = c.commands_are_read_back.ensures.one_line } in
    record { policy = policy_is back; says = says back; short = short }
