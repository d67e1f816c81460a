use Rattle.std.proofs.Common.{◌∙◌, ℕ, List, length, sym, subst}
use Rattle.std.specs.Prelude.{All, IsSome}
use Rattle.ucon_state.specs.Shown.{shown}
use Rattle.ucon_state.specs.Tables.{session_in}
use Rattle.ucon_audit.proofs.GoingOn.{usages_are_there}
use Rattle.ucon_audit.proofs.accessing.changed_usages.Goals as goal

pub changed_sessions-requires-clause-there : goal.changed_sessions-requires-clause-there
changed_sessions-requires-clause-there g c κs within =
    let t = (shown c.args.state.now).tables in
    subst (λ (ns : List ℕ). All (λ n. IsSome (session_in t n)) ns) (sym (c.slice.ensures ∙ c.in_ok-sessions.ensures.tables))
    (usages_are_there (session_in t) (length t.sessions))
