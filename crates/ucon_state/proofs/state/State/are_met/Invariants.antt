use Rattle.std.proofs.Common.{take}
use Rattle.std.specs.List.{All}
use Rattle.ucon_state.specs.Planned.{IsMet}
use Rattle.ucon_state.specs.Shown.{right_names, shown}
use Rattle.ucon_state.specs.Stored.{row_of}
use Rattle.ucon_state.specs.Tables.{readings_in}
use Rattle.ucon_state.proofs.state.State.are_met.Given as goal

-- the checks so far are met
abbrev pub invariant-loop-check : goal.invariant-loop-check
invariant-loop-check l =
    let s = shown l.self in
    All (IsMet s.policy (readings_in s.policy s.tables) (row_of (right_names l.self) s.tables.subjects s.tables.objects l.session)) (take l.check-index l.checks)
