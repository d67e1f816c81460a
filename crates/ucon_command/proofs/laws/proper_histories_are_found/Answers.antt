use Rattle.std.proofs.Common.{◌≤◌, [], length, arith}
use Rattle.ucon_model.specs.Payload.{most_payload}
use Rattle.ucon_command.proofs.Proper.{are_steps, steps_fit}
use Rattle.ucon_command.proofs.laws.proper_histories_are_found.Goals as goal

pub returns : goal.returns
returns c =
    let spelled = c.changing_replies_can_be_spelled.ensures in
    let few = c.revocations_are_few.ensures in
    record {
      found = λ takes text P H each accepts clients proper.
          let both = (c.accepted_texts_spell_typed_policies.ensures text P).0 accepts in
          let short : length text ≤ most_payload = omega (arith, both.0.short) in
          c.histories_are_found.ensures.written takes text P H each accepts short proper (are_steps spelled few text P both.0 both.1 [] H tt clients proper);
      fits = λ text P H accepts clients proper.
          let both = (c.accepted_texts_spell_typed_policies.ensures text P).0 accepts in
          let short : length text ≤ most_payload = omega (arith, both.0.short) in
          (short, steps_fit c.payloads_are_read_back.ensures.fits P [] H (are_steps spelled few text P both.0 both.1 [] H tt clients proper));
    }
