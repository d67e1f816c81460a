use Rattle.std.proofs.Common.{ℤ, List, ap}
use Rattle.std.specs.Prelude.{Option}
use Rattle.ucon_state.specs.Shown.{shown}
use Rattle.ucon_readers.specs.Readers.{first_of, readers_at}
use Rattle.ucon_readers.specs.Timers.{deadlines_in}
use Rattle.ucon_collections.specs.Deadlines.{deadline_of}
use Rattle.ucon_cascade.proofs.Monitored.{stands_like}
use Rattle.ucon_cascade.proofs.indexes.Indexes.over.Goals as goal

pub returns-clause-stands : goal.returns-clause-stands
returns-clause-stands c = λ P T h.
    let r = c.in_ok-readers.readers in
    let r' = c.keep.new.self in
    stands_like (shown c.args.state.now) (readers_at r) (readers_at r') (first_of r) (first_of r') (deadlines_in c.in_ok-timers.timers) (deadlines_in c.keep-2.new.self) P T
    c.keep.ensures.read c.keep.ensures.firsts (λ n. ap (λ (ds : List (Option ℤ)). deadline_of ds n) c.keep-2.ensures.deadlines) (record {
      follows = h;
      nobody = c.requires.nobody P T h;
      exact = c.in_ok-readers.ensures.exact;
      grouped = c.in_ok-readers.ensures.grouped;
      timely = c.in_ok-timers.ensures P T h;
    })
