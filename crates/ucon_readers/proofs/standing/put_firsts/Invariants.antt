use Rattle.std.proofs.Common.{◌≡◌}
use Rattle.ucon_links.specs.Dependents.{place_at}
use Rattle.ucon_links.specs.Walk.{left_from}
use Rattle.ucon_readers.proofs.Walking.{IsPutting}
use Rattle.ucon_readers.proofs.standing.put_firsts.Given as goal

abbrev pub invariant-loop-at : goal.invariant-loop-at
invariant-loop-at l = record {
  way : IsPutting l.lists.members l.index l.place l.at l.initial.work.members l.work.members;
  limit : l.work.limit ≡ l.initial.work.limit;
}

abbrev pub decreases-loop-at : goal.decreases-loop-at
decreases-loop-at l = left_from (place_at l.index.places l.place).listed l.at
