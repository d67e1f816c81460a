-- A command's block, and the reply to it.
use Rattle.std.specs.Prelude.{List, []}
use Rattle.ucon_model.specs.declared.command.Caller.{Caller}
use Rattle.ucon_model.specs.declared.command.Command.{Command}
use Rattle.ucon_model.specs.Plain.{PlainPolicy, PlainReply, refused, made}
use Rattle.ucon_model.specs.Action.{Action, Trace, extended, followed_by}
use Rattle.ucon_model.specs.OwnActions.{Own, refuse, tell, make, own}
use Rattle.ucon_model.specs.Settle.{settle, revoked_in}

-- own actions, and then the settling after them
abbrev pub own_block : PlainPolicy → Trace → Own → List Action
own_block P T (refuse r) = []
own_block P T (tell reply) = []
own_block P T (make head actions) = followed_by actions (settle P) T

-- the reply to own actions
abbrev pub own_reply : PlainPolicy → Trace → Own → PlainReply
own_reply P T (refuse r) = refused r
own_reply P T (tell reply) = reply
own_reply P T (make head actions) = made head (revoked_in (settle P (extended T actions)))

-- the command's own actions, and then the settling after them; nothing if it is refused or reads
abbrev pub block : PlainPolicy → Trace → Caller → Command → List Action
block P T caller c = own_block P T (own P T caller c)

-- the refusal, or the reading, or what was made with the revocations in order
abbrev pub reply : PlainPolicy → Trace → Caller → Command → PlainReply
reply P T caller c = own_reply P T (own P T caller c)

-- the trace after a command
abbrev pub after : PlainPolicy → Trace → Caller → Command → Trace
after P T caller c = extended T (block P T caller c)
