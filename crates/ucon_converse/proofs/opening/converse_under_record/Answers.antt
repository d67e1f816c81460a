use Rattle.std.proofs.Common.{rules, ◌≡◌, inl, inr, refl, sym, subst}
use Rattle.std.specs.Prelude.{IfSome}
use Rattle.ucon_flow.specs.Lines.{Reading}
use Rattle.ucon_model.specs.Plain.{Bytes}
use Rattle.ucon_outcome.specs.declared.outcome.Outcome.{Outcome}
use Rattle.ucon_syntax.specs.Policies.{accepted}
use Rattle.ucon_tell.specs.Heard.{Hears}
use Rattle.ucon_converse.specs.Ended.{EndsUnderBy, IsOfRecord, LeavesSame, record_refused}
use Rattle.ucon_converse.specs.Holding.{HasFirst}
use Rattle.ucon_converse.proofs.Records.{refused_so}
use Rattle.ucon_converse.proofs.opening.converse_under_record.Goals as goal

pub returns-in-Ok-accept-clause-ends : goal.returns-in-Ok-accept-clause-ends
returns-in-Ok-accept-clause-ends g c =
    let seen = g.D.Disk.seen in
    let recorded = c.in-Ok.recorded in
    let text = c.deref-in-Ok-accept.result.now in
    let is : text ≡ recorded.0.items = c.deref-in-Ok-accept.ensures.value in
    inr (record {
      text = text;
      first = subst (λ (t : Bytes). IfSome (seen c.args.disk).contents (HasFirst t)) (sym is) c.in-Ok.ensures.first;
      between = recorded.1;
      only_read = c.in-Ok.ensures.only_read;
      held_after = c.converse_under.new.lines.held;
      ends =
          subst (λ (l : Reading). EndsUnderBy accepted text c.converse_under.result.outcome (seen recorded.1) (seen c.converse_under.result.disk)
          (g.V.Voice.seen c.args.out.now) (g.V.Voice.seen c.converse_under.new.out)
          (λ r heard. Hears r l.held c.converse_under.new.lines.held (g.S.Source.seen c.args.input.now).left (g.S.Source.seen c.converse_under.new.input).left heard))
          c.new-lines.ensures c.converse_under.ensures.ends;
    })

pub returns-clause-ends : goal.returns-clause-ends
returns-clause-ends g c =
    let seen = g.D.Disk.seen in
    let old = c.args.disk in
    let recorded = c.in-Ok.recorded in
    let refused = c.in-Err-accept.refused in
    let text = c.deref.result.now in
    let is : text ≡ recorded.0.items = c.deref.ensures.value in
    let read = c.in-Ok.ensures.only_read in
    let first : IfSome (seen old).contents (HasFirst text) = subst (λ (t : Bytes). IfSome (seen old).contents (HasFirst t)) (sym is) c.in-Ok.ensures.first in
    let reason : IsOfRecord (record_refused refused) (seen old).contents (seen old).faults (seen recorded.1).faults =
    refused_so refused (seen old).contents text (seen old).faults (seen recorded.1).faults c.in-Err-accept.ensures.err first read.faults in
    let outcome : c.by-in-Err-accept.result.outcome ≡ record_refused refused = search rules in
    let disk : c.by-in-Err-accept.result.disk ≡ recorded.1 = search rules in
    inl (record {
      reason = subst (λ (z : Outcome × g.row.D.Denot). IsOfRecord z.0 (seen old).contents (seen old).faults (seen z.1).faults) (λ i. (sym outcome i, sym disk i)) reason;
      images_kept = subst (λ (d : g.row.D.Denot). LeavesSame (seen old) (seen d)) (sym disk) read.images_kept;
      contents = refl;
      silent = λ b t told. told;
      unread = refl;
    })
