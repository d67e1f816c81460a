use Rattle.std.proofs.Common.{◌≡◌, Some, sym, ap, subst, ◌∙◌}
use Rattle.ucon_model.specs.Document.{policy_part}
use Rattle.ucon_model.specs.Plain.{Bytes}
use Rattle.ucon_model.specs.Spells.{Spells}
use Rattle.ucon_syntax.specs.Policies.{accepted}
use Rattle.ucon_outcome.specs.declared.outcome.Outcome.{Outcome}
use Rattle.ucon_top.specs.Accepted.{HasPolicy}
use Rattle.ucon_top.specs.Ending.{by_opening, outcome_of}
use Rattle.ucon_top.specs.OwnReading.{HasLivedInput, IsUnopened}
use Rattle.ucon_top.specs.Seen.{all_seen}
use Rattle.ucon_top.proofs.Living.{AreComing, live_raised, run_lived}
use Rattle.ucon_top.proofs.Playing.{HasMoments, IsOpened, opened_so}
use Rattle.ucon_top.proofs.Unlived.{refused_lived, unopened_lived}
use Rattle.ucon_top.proofs.live.run_coming.Goals as goal

pub returns-in-Err-clause-lived : goal.returns-in-Err-clause-lived
returns-in-Err-clause-lived g c = λ first o works.
    let sink = g.K.Sink.seen c.args.out.now in
    let is : c.by.result.outcome ≡ outcome_of c.in-Err.refused = c.by.ensures.outcome ∙ c.from.ensures in
    subst (λ (out : Outcome). HasLivedInput out (all_seen (g.S.Source.seen first) sink (g.D.Disk.seen c.args.disk))
    (all_seen (g.S.Source.seen c.args.input.now) sink (g.D.Disk.seen c.by.result.disk))) (sym is)
    (refused_lived g.S.Source.seen g.D.Disk.seen c.args.document.policy.items first c.args.input.now c.args.document.script o works
    c.args.disk c.by.result.disk sink c.in-Err.refused c.by.ensures.disk
    (λ bytes part. c.in-Err.ensures.err bytes (part ∙ sym c.deref.ensures.value)))

pub returns-in-Ok-clause-fault : goal.returns-in-Ok-clause-fault
returns-in-Ok-clause-fault g c = λ is.
    let ok = c.in_default.ensures.ok in
    let store = c.in-Ok.store in
    let e = c.in-Ok.ensures in
    let accepts : accepted store.policy ≡ Some ok.0 = ap accepted (e.store.0 ∙ c.deref-2.ensures.value ∙ sym c.deref.ensures.value) ∙ ok.1 in
    live_raised g.S.Source.seen g.D.Disk.seen ok.0 c.args.disk store e.store.2 e.unfailed c.args.document.script c.live_lines.new.script
    c.args.input.now c.live_lines.new.input c.live_lines.result.disk c.live_lines.result.outcome
    (g.K.Sink.seen c.args.out.now).contents (g.K.Sink.seen c.live_lines.new.out).contents
    (c.live_lines.ensures.run ok.0 accepts) is

pub returns-in-Ok-clause-lived : goal.returns-in-Ok-clause-lived
returns-in-Ok-clause-lived g c = λ first o works.
    let text = c.args.document.policy.items in
    let ok = c.in_default.ensures.ok in
    let P = ok.0 in
    let store = c.in-Ok.store in
    let e = c.in-Ok.ensures in
    let same : c.deref-2.result.now ≡ text = c.deref-2.ensures.value in
    let accepts : accepted text ≡ Some P = ap accepted (sym c.deref.ensures.value) ∙ ok.1 in
    let there : IsOpened g.D.Disk.seen P c.deref-2.result.now c.args.disk store =
    opened_so g.D.Disk.seen P c.deref-2.result.now c.args.disk store (ap accepted same ∙ accepts)
    e.store e.since e.unfailed e.tells e.leads e.seen e.begins e.at_rest e.places e.records e.old e.founded in
    let opened : IsOpened g.D.Disk.seen P text c.args.disk store = subst (λ (t : Bytes). IsOpened g.D.Disk.seen P t c.args.disk store) same there in
    let read = (c.accepted_texts_spell_typed_policies.ensures text P).0 accepts in
    let typed : (bytes : Bytes) → policy_part bytes ≡ text → HasPolicy bytes P =
    λ bytes is. record { spelled = subst (λ (t : Bytes). Spells t P) (sym is) read.0; typed = read.1 } in
    let law = c.coming_documents_are_read_line_by_line.ensures in
    let laws : AreComing g.S.Source.seen = record { fed = law.fed; whole = law.whole; refused = law.refused; long = law.long; failed = law.failed } in
    let of_disk = g.met.D.Disk g.world.𝓛 g.world.𝓜 g.world.𝓡 ((λ s x. x), (λ x. x), (λ x. x), (λ x. x)) in
    let moments : HasMoments g.D.Disk.seen = record { counts_now = of_disk.counts_now; only_now = of_disk.only_now } in
    run_lived g.S.Source.seen g.D.Disk.seen moments laws P text c.args.disk store opened typed first c.args.input.now c.live_lines.new.input
    c.args.document.script c.live_lines.new.script o c.requires.unjudged.0 c.requires.unjudged.1 works c.live_lines.result.disk
    (g.K.Sink.seen c.args.out.now) (g.K.Sink.seen c.live_lines.new.out) c.live_lines.result.outcome
    (λ want. ap g.K.Sink.seen (c.live_lines.ensures.unwritten want))
    (c.live_lines.ensures.run P (ap accepted (e.store.0 ∙ same) ∙ accepts))

pub returns-clause-lived : goal.returns-clause-lived
returns-clause-lived g c = λ first o works.
    let sink = g.K.Sink.seen c.args.out.now in
    let old = g.D.Disk.seen c.args.disk in
    let text = c.args.document.policy.items in
    let fault = c.in-Err-open.fault in
    let e = c.in-Err-open.ensures in
    let there : IsUnopened fault c.deref-2.result.now old (g.D.Disk.seen c.in-Err-open.disk) =
    record { reason = e.reason; as_it_was = e.bytes_err; images_kept = e.since_err } in
    let unopened : IsUnopened fault text old (g.D.Disk.seen c.by-in-Err-open.result.disk) =
    subst (λ (z : Bytes × g.row.D.Denot). IsUnopened fault z.0 old (g.D.Disk.seen z.1))
    (λ i. (c.deref-2.ensures.value i, sym c.by-in-Err-open.ensures.disk i)) there in
    let is : c.by-in-Err-open.result.outcome ≡ by_opening fault = c.by-in-Err-open.ensures.outcome ∙ c.from-in-Err-open.ensures in
    subst (λ (out : Outcome). HasLivedInput out (all_seen (g.S.Source.seen first) sink old)
    (all_seen (g.S.Source.seen c.args.input.now) sink (g.D.Disk.seen c.by-in-Err-open.result.disk))) (sym is)
    (unopened_lived g.S.Source.seen g.D.Disk.seen text first c.args.input.now c.args.document.script o works
    c.args.disk c.by-in-Err-open.result.disk sink fault unopened)
