use Rattle.std.proofs.lemmas.Result.{on_ok_weaker}
use Rattle.ucon_model.specs.Payload.{Told}
use Rattle.ucon_syntax.specs.Policies.{accepted}
use Rattle.ucon_command.specs.Payloads.{told_of}
use Rattle.ucon_command.proofs.Payloads.{CommandsAreRead, payload_back, payload_short}
use Rattle.ucon_command.proofs.payload.put_payload.Goals as goal

pub returns-clause-read_back : goal.returns-clause-read_back
returns-clause-read_back c =
    let commands : CommandsAreRead accepted = record { written = c.commands_are_read_back.ensures.written; one_line = c.commands_are_read_back.ensures.one_line } in
    let step : Told = told_of c.args.caller c.args.command.now c.args.reply.now in
    on_ok_weaker c.put_step.result
    (λ form lt. payload_back c.texts_lack_bytes.ensures.numbers accepted commands c.replies_are_read_back.ensures.written step lt form.1 form.2)
    c.put_step.ensures.in_form

pub returns-clause-short : goal.returns-clause-short
returns-clause-short c =
    let step : Told = told_of c.args.caller c.args.command.now c.args.reply.now in
    on_ok_weaker c.put_step.result
    (λ form. payload_short c.commands_are_read_back.ensures.short c.replies_are_read_back.ensures.short step form.0 form.1 form.2)
    c.put_step.ensures.in_form
