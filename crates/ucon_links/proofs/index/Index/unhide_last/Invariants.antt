use Rattle.std.proofs.Common.{length}
use Rattle.ucon_links.specs.Tables.{sessions_of}
use Rattle.ucon_links.proofs.Returning.{IsReturning}
use Rattle.ucon_links.proofs.Stack.{below}
use Rattle.ucon_links.proofs.index.Index.unhide_last.Given as goal

abbrev pub invariant-loop-self : goal.invariant-loop-self
invariant-loop-self l = IsReturning l.session (below (sessions_of l.initial.self-inside.places.hidden)) l.initial.self-inside.places l.initial.self-inside.sessions l.self-inside.places l.self-inside.sessions

abbrev pub decreases-loop-self : goal.decreases-loop-self
decreases-loop-self l = length l.self-inside.places.hidden
