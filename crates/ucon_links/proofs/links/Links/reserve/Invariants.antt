use Rattle.std.proofs.Common.{◌≡◌, ◌≤◌, ◌-◌, max}
use Rattle.ucon_links.proofs.links.Links.reserve.Given as goal

abbrev pub invariant-loop-self : goal.invariant-loop-self
invariant-loop-self l = record {
  kept : l.self ≡ record l.initial.self { spare = l.self.spare };
  more : l.initial.self.spare ≤ l.self.spare;
  most : l.self.spare ≤ max l.initial.self.spare l.n;
}

abbrev pub decreases-loop-self : goal.decreases-loop-self
decreases-loop-self l = l.n - l.self.spare
