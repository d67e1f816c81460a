use Rattle.std.proofs.Common.{take}
use Rattle.ucon_links.proofs.Adding.{IsAdding}
use Rattle.ucon_links.proofs.index.Index.add.Given as goal

abbrev pub invariant-loop-place : goal.invariant-loop-place
invariant-loop-place l = IsAdding l.session (take l.place-index l.places) l.initial.self-inside.places l.initial.self-inside.sessions l.self-inside.places l.self-inside.sessions
