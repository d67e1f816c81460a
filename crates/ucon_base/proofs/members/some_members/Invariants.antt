use Rattle.std.proofs.Common.{◌≡◌, ◌+◌, ◌<◌, List, length, None}
use Rattle.std.specs.Prelude.{option_copied}
use Rattle.ucon_base.specs.Members.{Holds}
use Rattle.ucon_base.specs.Reading.{Member, awaiting, members}
use Rattle.ucon_base.proofs.Runs.{joined}
use Rattle.ucon_base.proofs.members.some_members.Given as goal

abbrev pub invariant-loop-quoted : goal.invariant-loop-quoted
invariant-loop-quoted l = record {
  found : (front : List Member)
      × ((Holds l.found front) × (joined front (members (option_copied l.last) awaiting l.at l.rest) ≡ members None awaiting 1 l.fn.bytes));
  place : l.at + length l.rest ≡ length l.fn.bytes + 1;
  count : l.found.count < l.at;
}

abbrev pub decreases-loop-quoted : goal.decreases-loop-quoted
decreases-loop-quoted l = length l.rest
