use Rattle.std.proofs.Common.{length}
use Rattle.ucon_links.specs.Lists.{Lists, AreHidden, WereHidden}
use Rattle.ucon_links.proofs.links.Links.unhide_all.Given as goal

abbrev pub invariant-loop-last : goal.invariant-loop-last
invariant-loop-last l = record {
  were_hidden : WereHidden l.hidden l.self;
  same : (v : Lists) → AreHidden v l.fn.nodes l.fn.self → AreHidden v l.hidden l.self;
}

abbrev pub decreases-loop-last : goal.decreases-loop-last
decreases-loop-last l = length l.hidden
