use Rattle.std.proofs.Common.{◌∙◌, subst}
use Rattle.std.specs.Prelude.{IsFalse}
use Rattle.ucon_model.specs.CommandLine.{line_read}
use Rattle.ucon_model.specs.Plain.{Bytes}
use Rattle.ucon_syntax.specs.Policies.{accepted}
use Rattle.ucon_command.specs.Faults.{IsRefusal, IsSure, amends}
use Rattle.ucon_command.proofs.Requests.{one_asker}
use Rattle.ucon_command.proofs.request.read_request.Goals as goal

pub returns-in-Ok-clause-asked : goal.returns-in-Ok-clause-asked
returns-in-Ok-clause-asked c = λ caller text asked.
    let one = one_asker c.texts_lack_bytes.ensures.numbers c.args.line.now c.in-Some.caller caller c.in-Some.text.now text c.in-Some.ensures asked in
    (one.0, c.in-Ok.ensures.judged.0 ∙ one.1)

pub returns-in-Err-clause-asked : goal.returns-in-Err-clause-asked
returns-in-Err-clause-asked c = λ caller text asked.
    let one = one_asker c.texts_lack_bytes.ensures.numbers c.args.line.now c.in-Some.caller caller c.in-Some.text.now text c.in-Some.ensures asked in
    let both = subst (λ (t : Bytes). IsRefusal (line_read accepted t) c.in-Err.fault × (IsFalse (amends t) → IsSure (line_read accepted t) c.in-Err.fault)) one.1 (c.in-Err.ensures.judged, c.in-Err.ensures.sure) in
    (one.0, both.0, both.1)
