use Rattle.std.proofs.Common.{◌≡◌, refl, ap, ◌∙◌, subst}
use Rattle.std.specs.Prelude.{Some}
use Rattle.ucon_model.specs.Document.{policy_part}
use Rattle.ucon_model.specs.Plain.{Bytes}
use Rattle.ucon_syntax.specs.Policies.{accepted}
use Rattle.ucon_outcome.specs.declared.outcome.Outcome.{Outcome}
use Rattle.ucon_top.specs.PointEnding.{EndsPoint}
use Rattle.ucon_top.proofs.Playing.{HasMoments, IsOpened, opened_so}
use Rattle.ucon_disk.specs.Causes.{raised}
use Rattle.ucon_top.proofs.Pointing.{pointed}
use Rattle.ucon_top.proofs.point.point.Goals as goal

pub open-requires : goal.open-requires
open-requires g c =
    let some = c.in-Ok.ensures.policy in
    let is : accepted (policy_part c.args.bytes.now) ≡ Some some.policy =
    (c.accepted_texts_spell_typed_policies.ensures (policy_part c.args.bytes.now) some.policy).1 (some.has_policy.spelled, some.has_policy.typed) in
    rw (c.policy_part.ensures, is) refl

pub returns-in-Ok-open-clause-pointed : goal.returns-in-Ok-open-clause-pointed
returns-in-Ok-open-clause-pointed g c =
    let bytes = c.args.bytes.now in
    let text = policy_part bytes in
    let store = c.in-Ok-open.store in
    let told = c.in-Ok-open.ensures in
    let some = c.in-Ok.ensures.policy in
    let P = some.policy in
    let is_text = c.policy_part.ensures in
    let seen = g.D.Disk.seen in
    let accepts : accepted c.policy_part.result.now ≡ Some P =
    ap accepted is_text ∙ (c.accepted_texts_spell_typed_policies.ensures text P).1 (some.has_policy.spelled, some.has_policy.typed) in
    let opened : IsOpened seen P text c.args.disk store =
    subst (λ (t : Bytes). IsOpened seen P t c.args.disk store) is_text
    (opened_so seen P c.policy_part.result.now c.args.disk store accepts told.store told.since told.unfailed told.tells told.leads told.seen told.begins told.at_rest told.places told.records told.old told.founded) in
    let start = told.leads P accepts in
    let laws = g.met.D.Disk in
    let moments : HasMoments seen = record { counts_now = laws.counts_now; only_now = laws.only_now } in
    pointed seen moments bytes P some.has_policy c.args.disk store opened c.checkpoints_of_traces_are_read_back.ensures.text (g.K.Sink.seen c.args.out.now) (g.K.Sink.seen c.point_opened.new.out)
    c.point_opened.result.disk c.point_opened.ensures.grows c.point_opened.result.outcome (λ is. ap g.K.Sink.seen (c.point_opened.ensures.failed is))
    (c.point_opened.ensures.ends P start.0 (ap accepted told.store.0 ∙ accepts) start.1)

pub returns-in-Ok-open-clause-fault : goal.returns-in-Ok-open-clause-fault
returns-in-Ok-open-clause-fault g c = λ is.
    let text = policy_part c.args.bytes.now in
    let store = c.in-Ok-open.store in
    let told = c.in-Ok-open.ensures in
    let some = c.in-Ok.ensures.policy in
    let P = some.policy in
    let accepts : accepted c.policy_part.result.now ≡ Some P =
    ap accepted c.policy_part.ensures ∙ (c.accepted_texts_spell_typed_policies.ensures text P).1 (some.has_policy.spelled, some.has_policy.typed) in
    let start = told.leads P accepts in
    let ends = subst (λ (o : Outcome). EndsPoint g.D.Disk.seen P store c.point_opened.result.disk
    (g.K.Sink.seen c.args.out.now).contents (g.K.Sink.seen c.point_opened.new.out).contents o) is
    (c.point_opened.ensures.ends P start.0 (ap accepted told.store.0 ∙ accepts) start.1) in
    ends.1 ∙ ap raised told.unfailed
