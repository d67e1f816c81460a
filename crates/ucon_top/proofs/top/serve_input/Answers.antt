use denote.Exit.{no}
use denote.Param.Send.{arg_send, param_send}
use Rattle.std.proofs.Common.{rules, ◌≡◌, sym, subst}
use Rattle.std.specs.Prelude.{Bool, IfSome, Option}
use Rattle.std.specs.Bool.{OnTrue}
use Rattle.ucon_model.specs.Document.{policy_part}
use Rattle.ucon_model.specs.Plain.{Bytes}
use Rattle.ucon_top.specs.OwnReading.{IsOwnJournal}
use Rattle.ucon_top.specs.Printed.{document_of}
use Rattle.ucon_top.specs.Seen.{Seen, all_seen}
use Rattle.ucon_top.proofs.Completing.{over_document, played_complete}
use Rattle.ucon_top.proofs.Crossing.{monitor_send}
use Rattle.ucon_top.proofs.Leaving.{unless_accepted}
use Rattle.ucon_top.proofs.Playing.{unread_played}
use Rattle.ucon_top.proofs.Threads.{threaded}
use Rattle.ucon_top.proofs.top.serve_input.Goals as goal

pub returns-in-Err-clause-made : goal.returns-in-Err-clause-made
returns-in-Err-clause-made g c =
    let source = g.S.Source.seen c.args.input.now in
    let source' = g.S.Source.seen c.document_bytes.new.input in
    let form = threaded c.args.form c.requires.threads c.requires.whole in
    record {
      done = λ _ alone. absurd (form.alone alone);
      cut_short = λ _ alone. absurd (form.alone alone);
      unwritten = search rules;
      played = λ _ _. rw (c.by.ensures.outcome, c.by.ensures.disk) (
          unread_played c.args.form c.in-Err.outcome source.left source.faults source'.faults (g.D.Disk.seen c.args.disk) (g.K.Sink.seen c.args.out.now)
          c.in-Err.ensures.ends
          );
      lived = λ is. absurd (form.live is);
      pointed = λ is. absurd (form.points is);
      told = λ tells. absurd (form.tells tells);
    }

pub serve-requires-send-E : goal.serve-requires-send-E
serve-requires-send-E g c κs within = param_send _ _ (arg_send _ no _ monitor_send)

pub returns-in-Err-clause-left : goal.returns-in-Err-clause-left
returns-in-Err-clause-left g c =
    let form = threaded c.args.form c.requires.threads c.requires.whole in
    record {
      read = search rules;
      reads = search rules;
      unread = λ no. absurd (no form.input);
      untouched = search rules;
      unaccepted = search rules;
      alone = λ alone. absurd (form.alone alone);
    }

pub returns-in-Ok-clause-made : goal.returns-in-Ok-clause-made
returns-in-Ok-clause-made g c =
    let left = (g.S.Source.seen c.args.input.now).left in
    let bytes = c.deref.result.now in
    let form = threaded c.args.form c.requires.threads c.requires.whole in
    let is = subst (λ (b : Bytes). IfSome (document_of c.args.form left) (λ d. d ≡ b)) (sym c.deref.ensures.value) c.in-Ok.ensures.bytes in
    record {
      done = λ _ alone. absurd (form.alone alone);
      cut_short = λ _ alone. absurd (form.alone alone);
      unwritten = search rules;
      played = λ _ _. record {
        bytes = bytes;
        are = subst (λ (o : Option Bytes). IfSome o (λ d. d ≡ bytes)) (form.reads left) is;
        played = c.serve.ensures.played;
      };
      lived = λ is. absurd (form.live is);
      pointed = λ is. absurd (form.points is);
      told = λ tells. absurd (form.tells tells);
    }

pub returns-in-Ok-clause-left : goal.returns-in-Ok-clause-left
returns-in-Ok-clause-left g c =
    let left = (g.S.Source.seen c.args.input.now).left in
    let bytes = c.deref.result.now in
    let form = threaded c.args.form c.requires.threads c.requires.whole in
    let document = document_of c.args.form left in
    let is = subst (λ (b : Bytes). IfSome document (λ d. d ≡ b)) (sym c.deref.ensures.value) c.in-Ok.ensures.bytes in
    record {
      read = search rules;
      reads = search rules;
      unread = λ no. absurd (no form.input);
      untouched = search rules;
      unaccepted = λ _. unless_accepted g.D.Disk.seen document bytes c.args.disk c.serve.result.disk is c.serve.ensures.unaccepted;
      alone = λ alone. absurd (form.alone alone);
    }

pub returns-in-Ok-clause-complete : goal.returns-in-Ok-clause-complete
returns-in-Ok-clause-complete g c =
    let bytes = c.deref.result.now in
    let outcome = c.serve.result.outcome in
    let before : Seen = all_seen (g.S.Source.seen c.args.input.now) (g.K.Sink.seen c.args.out.now) (g.D.Disk.seen c.args.disk) in
    let after : Seen = all_seen (g.S.Source.seen c.document_bytes.new.input) (g.K.Sink.seen c.serve.new.out) (g.D.Disk.seen c.serve.result.disk) in
    let document = document_of c.args.form before.source.left in
    let is = subst (λ (b : Bytes). IfSome document (λ d. d ≡ b)) (sym c.deref.ensures.value) c.in-Ok.ensures.bytes in
    over_document before after c.args.form outcome document bytes is
    (played_complete c.args.form before after bytes c.opening_sees_one_thing.ensures.one outcome
    (c.accepted_documents_are_not_refused.ensures bytes outcome) c.serve.ensures.refused c.serve.ensures.of_document c.serve.ensures.sink c.serve.ensures.fault
    c.serve.ensures.played
    (λ u. subst (λ (b : Bool). OnTrue b (IsOwnJournal (policy_part bytes) before.disk.contents)) (threaded c.args.form c.requires.threads c.requires.whole).disk u.journal))

pub returns-in-Ok-clause-causes : goal.returns-in-Ok-clause-causes
returns-in-Ok-clause-causes g c = record {
  usage = search rules;
  form = search rules;
  source = search rules;
  sink = search rules;
  too_long = search rules;
  refused = search rules;
  accepted = search rules;
  fault = search rules;
}
