use Rattle.std.proofs.Common.{◌≡◌, refl, sym}
use Rattle.std.specs.Prelude.{Some}
use Rattle.ucon_model.specs.Document.{policy_part}
use Rattle.ucon_syntax.specs.Policies.{accepted}
use Rattle.ucon_top.proofs.Checked.{checked_state, unchecked_state}
use Rattle.ucon_top.proofs.telling.reported.Goals as goal

pub report_text-requires : goal.report_text-requires
report_text-requires g c =
    let some = c.requires in
    let is : accepted (policy_part c.args.bytes.now) ≡ Some some.policy =
    (c.accepted_texts_spell_typed_policies.ensures (policy_part c.args.bytes.now) some.policy).1 (some.has_policy.spelled, some.has_policy.typed) in
    rw (c.policy_part.ensures, is) refl

pub returns-in-Ok-clause-text : goal.returns-in-Ok-clause-text
returns-in-Ok-clause-text g c =
    let told = c.in-Ok.ensures in
    checked_state c.args.bytes.now c.policy_part.result.now c.requires c.policy_part.ensures (g.D.Disk.seen c.args.disk) (g.D.Disk.seen c.in-Ok.disk) _ _
    (λ P H file is. sym is) told.printed told.bytes told.at_rest told.images

pub returns-in-Err-clause-unchecked : goal.returns-in-Err-clause-unchecked
returns-in-Err-clause-unchecked g c =
    let refused = c.in-Err.ensures in
    unchecked_state (policy_part c.args.bytes.now) c.policy_part.result.now c.policy_part.ensures c.in-Err.fault (g.D.Disk.seen c.args.disk)
    (g.D.Disk.seen c.in-Err.disk) refused.refused refused.bytes_err refused.images_err
