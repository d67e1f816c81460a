use Rattle.std.proofs.Common.{ap}
use Rattle.ucon_collections.specs.NumberSet.{NumberSet}
use Rattle.ucon_cascade.proofs.monitor.Monitor.over.Goals as goal

pub returns : goal.returns
returns c = λ P T h.
    let made = c.in_ok-readers.ensures in
    record {
      stands = made.stands P T h;
      settled = record { policy = c.requires.settled.same_policy; tables = c.requires.settled.same_tables };
      kept = made.kept;
      timers_kept = made.timers_kept;
      limit = ap (λ (w : NumberSet). w.limit) made.work;
      no_work = ap (λ (w : NumberSet). w.members) made.work;
    }
