use Rattle.std.proofs.Common.{length}
use Rattle.ucon_links.specs.Lists.{list_at}
use Rattle.ucon_links.proofs.IndexHiding.{IsHiding}
use Rattle.ucon_links.proofs.index.Index.hide.Given as goal

abbrev pub invariant-loop-item : goal.invariant-loop-item
invariant-loop-item l = IsHiding l.session l.initial.self-inside.places l.initial.self-inside.sessions l.self-inside.places l.self-inside.sessions

abbrev pub decreases-loop-item : goal.decreases-loop-item
decreases-loop-item l = length (list_at l.self-inside.sessions.lists l.session)
