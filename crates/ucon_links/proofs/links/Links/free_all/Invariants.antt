use Rattle.std.proofs.Common.{◌≡◌, ◌+◌, length, []}
use Rattle.ucon_links.proofs.links.Links.free_all.Given as goal

abbrev pub invariant-loop-node : goal.invariant-loop-node
invariant-loop-node l =
    record l.self { hidden = []; spare = l.self.spare + length l.self.hidden } ≡ record l.initial.self { hidden = []; spare = l.initial.self.spare + length l.initial.self.hidden }

abbrev pub decreases-loop-node : goal.decreases-loop-node
decreases-loop-node l = length l.self.hidden
