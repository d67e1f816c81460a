use Rattle.std.proofs.Common.{◌∙◌, sym}
use Rattle.ucon_syntax.specs.Policies.{accepted}
use Rattle.ucon_command.proofs.Payloads.{no_client}
use Rattle.ucon_command.proofs.payload.payload.Goals as goal

pub returns-clause-no_client : goal.returns-clause-no_client
returns-clause-no_client c =
    λ h. absurd (no_client accepted c.args.bytes.now c.in-Some.client.now c.in-Some.behind.now c.in-Some-caller_in.caller c.in-Some.ensures.cut (sym c.caller_in.ensures ∙ c.in-Some-caller_in.is) h)
