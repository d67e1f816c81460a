use Rattle.std.proofs.Common.{◌≡◌, ◌+◌, ◌-◌, ℤ, length}
use Rattle.ucon_collections.specs.Deadlines.{AreAlike, count_below}
use Rattle.ucon_collections.proofs.owned.Owned.lengthen.Given as goal

abbrev pub invariant-loop-self : goal.invariant-loop-self
invariant-loop-self l = record {
  now : AreAlike l.fn.self.now l.self.now;
  count : (tick : ℤ) → count_below l.self.now tick ≡ count_below l.fn.self.now tick;
  opening : AreAlike l.fn.self.opening l.self.opening;
}

abbrev pub decreases-loop-self : goal.decreases-loop-self
decreases-loop-self l = l.session + 1 - length l.self.now
