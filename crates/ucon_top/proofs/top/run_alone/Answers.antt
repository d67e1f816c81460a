use Rattle.std.proofs.Common.{rules, ◌≡◌, sym, subst}
use Rattle.std.specs.Prelude.{IfSome, Option}
use Rattle.ucon_model.specs.Plain.{Bytes}
use Rattle.ucon_top.specs.declared.form.Form.{Form}
use Rattle.ucon_top.specs.declared.form.Form.TheVariants.{Play, Point}
use Rattle.ucon_top.specs.Form.{TellsText}
use Rattle.ucon_top.specs.Printed.{document_of}
use Rattle.ucon_top.specs.Seen.{Seen, all_seen}
use Rattle.ucon_top.proofs.Completing.{over_document, played_complete, pointed_complete, printed_complete, told_complete}
use Rattle.ucon_top.proofs.Leaving.{unless_accepted}
use Rattle.ucon_top.proofs.Playing.{unread_played}
use Rattle.ucon_top.proofs.Pointing.{unread_pointed}
use Rattle.ucon_top.proofs.Threads.{not_live}
use Rattle.ucon_top.proofs.TellingForms.{IsTelling, telling}
use Rattle.ucon_top.proofs.Told.{unread_told}
use Rattle.ucon_top.proofs.top.run_alone.Goals as goal

pub returns-in-Err-clause-made : goal.returns-in-Err-clause-made
returns-in-Err-clause-made g c =
    let source = g.S.Source.seen c.args.input.now in
    let source' = g.S.Source.seen c.document_bytes.new.input in
    let sink = g.K.Sink.seen c.args.out.now in
    let disk = g.D.Disk.seen c.args.disk in
    record {
      done = search rules;
      cut_short = search rules;
      unwritten = search rules;
      played = λ _ _. rw (c.by.ensures.outcome, c.by.ensures.disk) (
          unread_played c.args.form c.in-Err.outcome source.left source.faults source'.faults disk sink c.in-Err.ensures.ends
          );
      lived = λ is. absurd (not_live c.args.form c.requires.alone is);
      pointed = λ _. rw (c.by.ensures.outcome, c.by.ensures.disk) (
          unread_pointed c.in-Err.outcome source.left source.faults source'.faults disk sink c.in-Err.ensures.ends
          );
      told = λ _. rw (c.by.ensures.outcome, c.by.ensures.disk) (
          unread_told c.args.form c.in-Err.outcome source.left source.faults source'.faults disk sink c.in-Err.ensures.ends
          );
    }

pub returns-in-Point-clause-complete : goal.returns-in-Point-clause-complete
returns-in-Point-clause-complete g c =
    let bytes = c.deref-in-Point.result.now in
    let outcome = c.point.result.outcome in
    let before : Seen = all_seen (g.S.Source.seen c.args.input.now) (g.K.Sink.seen c.args.out.now) (g.D.Disk.seen c.args.disk) in
    let after : Seen = all_seen (g.S.Source.seen c.document_bytes.new.input) (g.K.Sink.seen c.point.new.out) (g.D.Disk.seen c.point.result.disk) in
    let is_point : c.args.form ≡ Point = cc in
    let told = subst (λ (f : Form). IfSome (document_of f before.source.left) (λ d. d ≡ c.in-Ok.bytes.items)) is_point c.in-Ok.ensures.bytes in
    let is = subst (λ (b : Bytes). IfSome before.source.left (λ d. d ≡ b)) (sym c.deref-in-Point.ensures.value) told in
    rw is_point (over_document before after Point outcome before.source.left bytes is
    (pointed_complete Point before after bytes c.opening_sees_one_thing.ensures.one outcome
    (c.accepted_documents_are_not_refused.ensures bytes outcome) c.point.ensures.refused c.point.ensures.of_document c.point.ensures.sink c.point.ensures.fault
    c.point.ensures.pointed (λ u. u.journal)))

pub returns-in-Play-clause-complete : goal.returns-in-Play-clause-complete
returns-in-Play-clause-complete g c =
    let bytes = c.deref.result.now in
    let outcome = c.play.result.outcome in
    let before : Seen = all_seen (g.S.Source.seen c.args.input.now) (g.K.Sink.seen c.args.out.now) (g.D.Disk.seen c.args.disk) in
    let after : Seen = all_seen (g.S.Source.seen c.document_bytes.new.input) (g.K.Sink.seen c.play.new.out) (g.D.Disk.seen c.play.result.disk) in
    let is_play : c.args.form ≡ Play = cc in
    let told = subst (λ (f : Form). IfSome (document_of f before.source.left) (λ d. d ≡ c.in-Ok.bytes.items)) is_play c.in-Ok.ensures.bytes in
    let is = subst (λ (b : Bytes). IfSome before.source.left (λ d. d ≡ b)) (sym c.deref.ensures.value) told in
    rw is_play (over_document before after Play outcome before.source.left bytes is
    (played_complete Play before after bytes c.opening_sees_one_thing.ensures.one outcome
    (c.accepted_documents_are_not_refused.ensures bytes outcome) c.play.ensures.refused c.play.ensures.of_document c.play.ensures.sink c.play.ensures.fault
    c.play.ensures.played (λ u. u.journal)))

pub returns-in-Audit-clause-made : goal.returns-in-Audit-clause-made
returns-in-Audit-clause-made g c =
    let form = c.args.form in
    let left = (g.S.Source.seen c.args.input.now).left in
    let bytes = c.deref-in-Audit.result.now in
    let tells : TellsText form = search rules in
    let so : IsTelling form = telling form tells in
    let is = subst (λ (b : Bytes). IfSome (document_of form left) (λ d. d ≡ b)) (sym c.deref-in-Audit.ensures.value) c.in-Ok.ensures.bytes in
    record {
      done = λ _ alone. absurd (so.alone alone);
      cut_short = λ _ alone. absurd (so.alone alone);
      unwritten = search rules;
      played = λ runs whole. absurd (so.runs runs);
      lived = λ live. absurd (so.live live);
      pointed = λ point. absurd (so.points point);
      told = λ _. record { bytes = bytes; are = subst (λ (o : Option Bytes). IfSome o (λ d. d ≡ bytes)) (so.reads left) is; told = c.tell.ensures.told };
    }

pub returns-in-Audit-clause-left : goal.returns-in-Audit-clause-left
returns-in-Audit-clause-left g c =
    let bytes = c.deref-in-Audit.result.now in
    let document = document_of c.args.form (g.S.Source.seen c.args.input.now).left in
    let is = subst (λ (b : Bytes). IfSome document (λ d. d ≡ b)) (sym c.deref-in-Audit.ensures.value) c.in-Ok.ensures.bytes in
    record {
      read = search rules;
      reads = search rules;
      unread = search rules;
      untouched = search rules;
      unaccepted = λ _. unless_accepted g.D.Disk.seen document bytes c.args.disk c.tell.result.disk is c.tell.ensures.unaccepted;
      alone = search rules;
    }

pub returns-in-Audit-clause-complete : goal.returns-in-Audit-clause-complete
returns-in-Audit-clause-complete g c =
    let form = c.args.form in
    let bytes = c.deref-in-Audit.result.now in
    let outcome = c.tell.result.outcome in
    let before : Seen = all_seen (g.S.Source.seen c.args.input.now) (g.K.Sink.seen c.args.out.now) (g.D.Disk.seen c.args.disk) in
    let after : Seen = all_seen (g.S.Source.seen c.document_bytes.new.input) (g.K.Sink.seen c.tell.new.out) (g.D.Disk.seen c.tell.result.disk) in
    let document = document_of form before.source.left in
    let is = subst (λ (b : Bytes). IfSome document (λ d. d ≡ b)) (sym c.deref-in-Audit.ensures.value) c.in-Ok.ensures.bytes in
    over_document before after form outcome document bytes is
    (told_complete before after bytes c.opening_sees_one_thing.ensures.one form outcome
    (c.accepted_documents_are_not_refused.ensures bytes outcome) c.tell.ensures.refused c.tell.ensures.of_document c.tell.ensures.sink c.tell.ensures.fault
    c.tell.ensures.told)

pub returns-in-Trial-clause-complete : goal.returns-in-Trial-clause-complete
returns-in-Trial-clause-complete g c =
    let form = c.args.form in
    let bytes = c.deref-in-Trial.result.now in
    let outcome = c.print_output.result in
    let before : Seen = all_seen (g.S.Source.seen c.args.input.now) (g.K.Sink.seen c.args.out.now) (g.D.Disk.seen c.args.disk) in
    let after : Seen = all_seen (g.S.Source.seen c.document_bytes.new.input) (g.K.Sink.seen c.print_output.new.out) (g.D.Disk.seen c.args.disk) in
    let document = document_of form before.source.left in
    let is = subst (λ (b : Bytes). IfSome document (λ d. d ≡ b)) (sym c.deref-in-Trial.ensures.value) c.in-Ok.ensures.bytes in
    rw (c.by-in-Trial.ensures.outcome, c.by-in-Trial.ensures.disk) (
    over_document before after form outcome document bytes is
    (printed_complete before after form outcome bytes
    (c.accepted_documents_are_not_refused.ensures bytes outcome) c.print_output.ensures.refused c.print_output.ensures.ends c.print_output.ensures.sink))
