-- What a command's actions are, said without computing them.
use Rattle.std.specs.Prelude.{◌≡◌, List, [], ◌++◌}
use Rattle.ucon_model.specs.declared.command.Caller.{Caller}
use Rattle.ucon_model.specs.declared.command.Command.{Command}
use Rattle.ucon_model.specs.Plain.{PlainPolicy}
use Rattle.ucon_model.specs.Action.{Action, Trace, extended}
use Rattle.ucon_model.specs.OwnActions.{Own, refuse, tell, make, own}
use Rattle.ucon_model.specs.Legal.{IsCascade}

-- these actions begin with the own ones and go on as a cascade
abbrev pub AreOwnAndCascade : PlainPolicy → Trace → Own → List Action → Type 0
AreOwnAndCascade P T (refuse r) actions = actions ≡ []
AreOwnAndCascade P T (tell reply) actions = actions ≡ []
AreOwnAndCascade P T (make head first) actions = (cascade : List Action) × (actions ≡ first ++ cascade) × IsCascade P (extended T first) cascade

-- These actions after a trace begin with the command's own ones, and go on with legal revocations up to where no accessing session fails. Each
-- revocation is followed directly by its session's updates after a revocation. There are no actions if the command is refused or reads.
abbrev pub AreActionsOf : PlainPolicy → Trace → Caller → Command → List Action → Type 0
AreActionsOf P T caller c actions = AreOwnAndCascade P T (own P T caller c) actions
