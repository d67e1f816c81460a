use Rattle.ucon_syntax.specs.Policies.{accepted}
use Rattle.ucon_command.proofs.Payloads.{entry_is}
use Rattle.ucon_command.proofs.payload.read_entry.Goals as goal

pub returns-clause-told : goal.returns-clause-told
returns-clause-told c = (entry_is accepted c.args.bytes.now c.entry.new.out (λ rest. rest.now) c.entry.result c.entry.ensures).0

pub returns-clause-untold : goal.returns-clause-untold
returns-clause-untold c = (entry_is accepted c.args.bytes.now c.entry.new.out (λ rest. rest.now) c.entry.result c.entry.ensures).1

pub returns-clause-client : goal.returns-clause-client
returns-clause-client c = (entry_is accepted c.args.bytes.now c.entry.new.out (λ rest. rest.now) c.entry.result c.entry.ensures).2
