-- The steps of a proper history of commands can be spelled.
use Rattle.std.proofs.Common.{◌≤◌, [], ◌∷◌, ◌++◌, length}
use Rattle.std.specs.Prelude.{IsTrue}
use Rattle.ucon_base.specs.Elements.{Each, each_append}
use Rattle.ucon_model.specs.declared.command.Caller.{Caller}
use Rattle.ucon_model.specs.declared.command.Command.{Command}
use Rattle.ucon_model.specs.CommandLine.{IsCommand}
use Rattle.ucon_model.specs.Found.{payloads_behind}
use Rattle.ucon_model.specs.History.{History, AreCommands, IsProperFrom, changes, said}
use Rattle.ucon_model.specs.Payload.{Told, told, most_payload, payload_spelling, revocations_in}
use Rattle.ucon_model.specs.Plain.{Bytes, PlainPolicy}
use Rattle.ucon_model.specs.ReplyText.{IsReply}
use Rattle.ucon_model.specs.Spells.{Spells}
use Rattle.ucon_model.specs.Typing.{IsTyped}
use Rattle.ucon_command.specs.Payloads.{AreOfClients, AreSteps, IsStep}

-- a reply that changes something can be spelled
abbrev pub RepliesAreSpelled : Type 0
RepliesAreSpelled =
    (text : Bytes) (P : PlainPolicy) → Spells text P → IsTyped P → (H : History) → AreCommands H → (caller : Caller) (c : Command) → IsCommand c
    → IsTrue (changes (said P H caller c)) → IsReply (said P H caller c)

-- and has few revocations
abbrev pub RevocationsAreFew : Type 0
RevocationsAreFew = (P : PlainPolicy) (H : History) (caller : Caller) (c : Command) → length (revocations_in (said P H caller c)) ≤ 65536

pub are_steps : RepliesAreSpelled → RevocationsAreFew → (text : Bytes) (P : PlainPolicy) → Spells text P → IsTyped P → (front rest : History) → AreCommands front
    → AreOfClients rest → IsProperFrom P front rest → AreSteps P front rest
are_steps spelled few text P spells typed front [] commands clients proper = tt
are_steps spelled few text P spells typed front (e ∷ rest) commands clients proper = (
  record {
    client = clients.0.0;
    command = clients.0.1;
    reply = spelled text P spells typed front commands e.caller e.command clients.0.1 proper.0;
    few = few P front e.caller e.command;
  },
  are_steps spelled few text P spells typed (front ++ e ∷ []) rest (each_append (λ e. IsCommand e.command) front (e ∷ []) commands (clients.0.1, tt)) clients.1 proper.1,
)

pub steps_fit : ((t : Told) → IsStep t → length (payload_spelling t) ≤ most_payload) → (P : PlainPolicy) (front rest : History) → AreSteps P front rest
    → Each (λ p. length p ≤ most_payload) (payloads_behind P front rest)
steps_fit fits P front [] steps = tt
steps_fit fits P front (e ∷ rest) steps = (fits (told e (said P front e.caller e.command)) steps.0, steps_fit fits P (front ++ e ∷ []) rest steps.1)
