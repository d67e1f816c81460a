use Rattle.std.proofs.Common.{◌≡◌, map, take}
use Rattle.ucon_state.specs.Shown.{shown}
use Rattle.ucon_client.proofs.publishing.session_states.Given as goal

-- so many are there
abbrev pub invariant-loop-n : goal.invariant-loop-n
invariant-loop-n l = l.states.items ≡ map (λ s. s.state) (take l.n (shown l.state).tables.sessions)
