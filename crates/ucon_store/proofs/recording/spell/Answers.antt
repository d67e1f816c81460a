use Rattle.std.proofs.Common.{◌≡◌, ◌∷◌, [], ◌++◌, ◌≤◌, length, sym, ap, ◌∙◌, arith}
use Rattle.ucon_model.specs.History.{said, changes}
use Rattle.ucon_model.specs.Payload.{most_payload, Told, entry_told, told, payload_spelling, payload_read}
use Rattle.ucon_model.specs.Plain.{Bytes, PlainReply}
use Rattle.ucon_syntax.specs.Policies.{accepted}
use Rattle.ucon_command.specs.Payloads.{told_of}
use Rattle.ucon_store.proofs.Taking.{same_taken}
use Rattle.ucon_store.proofs.recording.spell.Goals as goal

pub returns-clause-taken : goal.returns-clause-taken
returns-clause-taken c = λ P H said_is changing.
    let t : Told = told_of c.args.caller c.args.command.now c.args.reply.now in
    let payload = c.put_payload.new.out.items in
    let text : payload ≡ payload_spelling t = c.in_ok-put_payload.ensures.text ∙ ap (λ (front : Bytes). front ++ payload_spelling t) c.clear.ensures.items in
    let r : PlainReply = said P H c.args.caller c.args.command.now in
    let spelled : payload_spelling (told (entry_told t) r) ≡ payload = ap (λ (x : PlainReply). payload_spelling (told (entry_told t) x)) (sym said_is) ∙ sym text in
    let short : length payload ≤ most_payload = omega (arith, ap length text, c.in_ok-put_payload.ensures.short, c.requires.few) in
    let test = c.steps_are_taken_as_spelled.ensures.taken P H payload t short (ap (payload_read accepted) text ∙ c.in_ok-put_payload.ensures.read_back c.requires.client) in
    test ∙ same_taken (H ++ entry_told t ∷ []) (payload_spelling (told (entry_told t) r)) payload (changes r) (ap changes (sym said_is) ∙ changing) spelled
