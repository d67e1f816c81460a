use Rattle.ucon_state.specs.Shown.{shown}
use Rattle.ucon_cascade.specs.Putting.{IsCommandWork, IsPermitWork}
use Rattle.ucon_readers.specs.Readers.{first_of, readers_at}
use Rattle.ucon_cascade.proofs.Putting.{gains_both}
use Rattle.ucon_cascade.proofs.own_work.put_own_work.Goals as goal

pub returns-clause-members : goal.returns-clause-members
returns-clause-members c =
    gains_both (first_of c.args.readers.now) c.args.work.now.members c.put_commanded.new.work.members c.put_permitted.new.work.members
    (IsCommandWork (shown c.args.state.now) (readers_at c.args.readers.now) c.args.command.now) (IsPermitWork (shown c.args.state.now) (readers_at c.args.readers.now) c.args.head.now)
    c.put_commanded.ensures.members c.put_permitted.ensures.members
