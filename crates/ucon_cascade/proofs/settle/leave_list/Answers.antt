use Rattle.ucon_readers.specs.Readers.{first_of}
use Rattle.ucon_cascade.proofs.Leaving.{next_joins}
use Rattle.ucon_cascade.proofs.settle.leave_list.Goals as goal

pub returns-in-Some-clause-members : goal.returns-in-Some-clause-members
returns-in-Some-clause-members c =
    next_joins (first_of c.args.readers.now) (first_of c.hide.new.self) c.args.n c.in-Some.next c.in_ok-next.field-0 c.args.work.now.members c.put.new.self.members c.in-Some.is
    c.in_ok-next.ensures.next c.in_ok-next.ensures.first c.put.ensures.members
