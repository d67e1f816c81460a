use Rattle.std.proofs.Common.{◌≡◌, refl, ap, sym, ◌∙◌, subst}
use Rattle.std.specs.Prelude.{Some, ⊤}
use Rattle.ucon_model.specs.Action.{Trace}
use Rattle.ucon_model.specs.Document.{policy_part}
use Rattle.ucon_model.specs.History.{trace_from}
use Rattle.ucon_model.specs.Plain.{Bytes, PlainPolicy}
use Rattle.ucon_explain.specs.Text.{try_spelling}
use Rattle.ucon_store.specs.Starts.{IsStart}
use Rattle.ucon_syntax.specs.Policies.{accepted}
use Rattle.ucon_top.specs.OwnReading.{IsOpenedState}
use Rattle.ucon_top.proofs.Playing.{HasMoments, IsOpened, opened_so}
use Rattle.ucon_top.proofs.Told.{if_ok, on_err, opened_state}
use Rattle.ucon_top.proofs.telling.explained_try.Given.{Over}
use Rattle.ucon_top.proofs.telling.explained_try.Goals as goal

pub open-requires : goal.open-requires
open-requires g c =
    let some = c.requires in
    let is : accepted (policy_part c.args.bytes.now) ≡ Some some.policy =
    (c.accepted_texts_spell_typed_policies.ensures (policy_part c.args.bytes.now) some.policy).1 (some.has_policy.spelled, some.has_policy.typed) in
    rw (c.policy_part.ensures, is) refl

-- what the closed store was opened on, of which this is so after each trace that leads to where it begins
over : (g : Over) (c : goal.After-close g) (so : PlainPolicy → Trace → Type 0)
    → ((T : Trace) → IsStart c.requires.policy c.in-Ok.store.point c.in-Ok.store.before T → so c.requires.policy (trace_from c.requires.policy T c.in-Ok.store.entries))
    → IsOpenedState c.args.bytes.now (g.D.Disk.seen c.args.disk) (g.D.Disk.seen c.close.result) so
over g c so each =
    let bytes = c.args.bytes.now in
    let text = policy_part bytes in
    let store = c.in-Ok.store in
    let told = c.in-Ok.ensures in
    let some = c.requires in
    let P = some.policy in
    let seen = g.D.Disk.seen in
    let is_text = c.policy_part.ensures in
    let accepts : accepted c.policy_part.result.now ≡ Some P =
    ap accepted is_text ∙ (c.accepted_texts_spell_typed_policies.ensures text P).1 (some.has_policy.spelled, some.has_policy.typed) in
    let opened : IsOpened seen P text c.args.disk store =
    subst (λ (t : Bytes). IsOpened seen P t c.args.disk store) is_text
    (opened_so seen P c.policy_part.result.now c.args.disk store accepts told.store told.since told.unfailed told.tells told.leads told.seen told.begins told.at_rest told.places told.records told.old told.founded) in
    let start = told.leads P accepts in
    let laws = g.met.D.Disk in
    let moments : HasMoments seen = record { counts_now = laws.counts_now; only_now = laws.only_now } in
    opened_state seen moments bytes P some.has_policy c.args.disk store opened (told.seen P accepts) c.close.result c.close.ensures.disk so start.0 start.1 each

pub returns-clause-text : goal.returns-clause-text
returns-clause-text g c =
    let store = c.in-Ok.store in
    let told = c.in-Ok.ensures in
    let some = c.requires in
    let P = some.policy in
    let text = policy_part c.args.bytes.now in
    let accepts : accepted store.policy ≡ Some P =
    ap accepted (told.store.0 ∙ c.policy_part.ensures) ∙ (c.accepted_texts_spell_typed_policies.ensures text P).1 (some.has_policy.spelled, some.has_policy.typed) in
    let s = c.args.subject.now in
    let r = c.args.right.now in
    let o = c.args.object.now in
    if_ok c.try_text-text.result _ _
    (λ t each. over g c (λ Q U. try_spelling Q U s r o ≡ t.items)
    (λ T starts. sym (each P (trace_from P T store.entries) (c.state.ensures.follows told.store.2 P T accepts starts))))
    c.try_text-text.ensures

pub returns-clause-no_memory : goal.returns-clause-no_memory
returns-clause-no_memory g c = on_err c.try_text-text.result _ (over g c (λ Q U. ⊤) (λ T starts. tt))
