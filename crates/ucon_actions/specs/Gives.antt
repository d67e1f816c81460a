-- What the code tells of a command's own actions.
use Rattle.std.specs.Prelude.{◌≡◌, Bool, true, false, ⊤}
use Rattle.ucon_model.specs.declared.command.Command.{Command}
use Rattle.ucon_model.specs.declared.command.Command.TheVariants.{Amend}
use Rattle.ucon_model.specs.declared.reply.Head.{Head}
use Rattle.ucon_model.specs.Action.{Trace, extended}
use Rattle.ucon_model.specs.OwnActions.{Own, refuse, tell, make}
use Rattle.ucon_model.specs.Plain.{PlainPolicy, value_is, status}
use Rattle.ucon_actions.specs.declared.outcome.ActionFault.{ActionFault}
use Rattle.ucon_actions.specs.declared.outcome.ActionFault.TheVariants.{Refused, NoMemory}
use Rattle.ucon_actions.specs.declared.outcome.Outcome.{Outcome}
use Rattle.ucon_actions.specs.declared.outcome.Outcome.TheVariants.{Value as Value', Status, Made}
use Rattle.ucon_state.specs.Following.{Follows}
use Rattle.ucon_state.specs.Shown.{Shown}

-- the own actions make this head, and the state follows them
abbrev pub Makes : Head → Shown → PlainPolicy → Trace → Own → Type 0
Makes head s' P T (make h actions) = (h ≡ head) × Follows s' P (extended T actions)
Makes head s' P T (refuse r) = ⊥
Makes head s' P T (tell reply) = ⊥

-- what is told is what is defined, and nothing changed if the command reads
abbrev pub IsGiven : Outcome → Shown → Shown → PlainPolicy → Trace → Own → Type 0
IsGiven (Value' v) s s' P T own = (own ≡ tell (value_is v)) × (s' ≡ s)
IsGiven (Status n state) s s' P T own = (own ≡ tell (status n state)) × (s' ≡ s)
IsGiven (Made head) s s' P T own = Makes head s' P T own

-- so after each trace that the state followed
abbrev pub Gives : Outcome → Shown → Shown → (PlainPolicy → Trace → Own) → Type 0
Gives o s s' own = (P : PlainPolicy) (T : Trace) → Follows s P T → IsGiven o s s' P T (own P T)

-- if the command is refused, the definition refuses it so after each trace that the state followed
abbrev pub Refuses : ActionFault → Shown → (PlainPolicy → Trace → Own) → Type 0
Refuses (Refused r) s own = (P : PlainPolicy) (T : Trace) → Follows s P T → own P T ≡ refuse r
Refuses (NoMemory e) s own = ⊤

-- if the command is refused, nothing changed
abbrev pub Unchanged : ActionFault → Shown → Shown → Type 0
Unchanged (Refused r) s s' = s' ≡ s
Unchanged (NoMemory e) s s' = ⊤

-- whether a command replaces the policy
abbrev pub is_amendment : Command → Bool
is_amendment (Amend a) = true
is_amendment c = false
