use Rattle.std.proofs.Common.{◌≡◌, take}
use Rattle.ucon_links.specs.Dependents.{hide_all, UnhideGives}
use Rattle.ucon_links.proofs.index.Index.hide_all.Given as goal

abbrev pub invariant-loop-session : goal.invariant-loop-session
invariant-loop-session l = record {
  hidden : l.self ≡ hide_all l.initial.self (take l.session-index l.sessions);
  restored : UnhideGives l.session-index l.self l.initial.self;
}
