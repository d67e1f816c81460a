use Rattle.ucon_syntax.specs.Policies.{accepted}
use Rattle.ucon_command.proofs.Payloads.{read_is}
use Rattle.ucon_command.proofs.payload.read_payload.Goals as goal

pub returns-clause-spelled : goal.returns-clause-spelled
returns-clause-spelled c = (read_is accepted c.payloads_are_read_back.ensures.read c.args.bytes.now c.payload.result c.payload.ensures.read).0

pub returns-clause-client : goal.returns-clause-client
returns-clause-client c = (read_is accepted c.payloads_are_read_back.ensures.read c.args.bytes.now c.payload.result c.payload.ensures.read).1
