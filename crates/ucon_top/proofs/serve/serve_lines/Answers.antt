use Rattle.std.proofs.Common.{true, ◌≡◌, Some, List, map, sym, ap, subst, ◌∙◌}
use Rattle.ucon_model.specs.declared.command.Entry.{Entry}
use Rattle.ucon_model.specs.Action.{Trace}
use Rattle.ucon_model.specs.History.{History, trace}
use Rattle.ucon_model.specs.LegalRun.{Answered, own_answers}
use Rattle.ucon_store.specs.Kept.{Kept}
use Rattle.ucon_syntax.specs.Policies.{accepted}
use Rattle.ucon_store.specs.Marks.{marked}
use Rattle.ucon_store.specs.Starts.{IsStart}
use Rattle.ucon_store.specs.Whole.{IsFront, whole}
use Rattle.ucon_client.specs.declared.part.Part.{Part}
use Rattle.ucon_client.specs.Answers.{told_in}
use Rattle.ucon_client.specs.Dividing.{by_client}
use Rattle.ucon_top.specs.Closing.{IsClosedRun}
use Rattle.ucon_trial.specs.OneAnswer.{entry_of}
use Rattle.ucon_top.specs.Stepping.{IsRunAfter, IsRunBetween}
use Rattle.ucon_top.proofs.Answering.{AreLegal, failed_first}
use Rattle.ucon_top.proofs.Serving.{closed_at_once}
use Rattle.ucon_top.proofs.serve.serve_lines.Goals as goal

pub returns-in-Err-clause-run : goal.returns-in-Err-clause-run
returns-in-Err-clause-run g c = λ P accepts.
    let law = c.runs_over_a_store_are_legal.ensures in
    let laws : AreLegal = record { legal = law.legal; made = law.made; failed = law.failed } in
    let was = (g.K.Sink.seen c.args.out.now).contents in
    let only_now = (g.met.D.Disk g.world.𝓛 g.world.𝓜 g.world.𝓡 ((λ s x. x), (λ x. x), (λ x. x), (λ x. x))).only_now in
    closed_at_once g.D.Disk.seen own_answers P was was only_now laws
    c.args.store (by_client (map entry_of c.args.lines.now)) c.by.result.disk c.by.result.outcome c.requires (c.by.ensures.disk ∙ c.close.ensures.disk)
    (rw c.by.ensures.outcome tt) (rw c.by.ensures.outcome (λ answers. answers))

pub returns-in-Err-boarded_for-clause-run : goal.returns-in-Err-boarded_for-clause-run
returns-in-Err-boarded_for-clause-run g c = λ P accepts.
    let law = c.runs_over_a_store_are_legal.ensures in
    let laws : AreLegal = record { legal = law.legal; made = law.made; failed = law.failed } in
    let was = (g.K.Sink.seen c.args.out.now).contents in
    let only_now = (g.met.D.Disk g.world.𝓛 g.world.𝓜 g.world.𝓡 ((λ s x. x), (λ x. x), (λ x. x), (λ x. x))).only_now in
    let back = c.in-Err-boarded_for.store in
    let same : back ≡ c.args.store = c.in-Err-boarded_for.ensures.err in
    let lines = by_client (map entry_of c.args.lines.now) in
    subst (λ (s : Kept g.row.D.Denot). IsClosedRun g.D.Disk.seen own_answers true P s lines
    c.by-in-Err-boarded_for.result.outcome c.by-in-Err-boarded_for.result.disk was was) same
    (closed_at_once g.D.Disk.seen own_answers P was was only_now laws
    back lines c.by-in-Err-boarded_for.result.disk c.by-in-Err-boarded_for.result.outcome (ap (λ (s : Kept g.row.D.Denot). s.mark) same ∙ c.requires)
    (c.by-in-Err-boarded_for.ensures.disk ∙ c.close-in-Err-boarded_for.ensures.disk)
    (rw c.by-in-Err-boarded_for.ensures.outcome tt) (rw c.by-in-Err-boarded_for.ensures.outcome (λ answers. answers)))

pub returns-in-Ok-serve-clause-run : goal.returns-in-Ok-serve-clause-run
returns-in-Ok-serve-clause-run g c = λ P accepts.
    let boarded = c.in-Ok-boarded_for.boarded in
    let store = boarded.store in
    let lent : store ≡ c.args.store = c.in-Ok-boarded_for.ensures.store in
    let accepts' : accepted store.policy ≡ Some P = ap (λ (s : Kept g.row.D.Denot). accepted s.policy) lent ∙ accepts in
    let closed = c.in-Ok-serve.store in
    let r = c.in-Ok-serve.ensures in
    let is : c.deref.result.now ≡ c.in-Ok-serve.parts.items = c.deref.ensures.value in
    let after : (T : Trace) → IsStart P store.point store.before T → IsRunAfter own_answers true P T store closed (told_in c.deref.result.now) =
    λ T starts. subst (λ (parts : List Part). IsRunAfter own_answers true P T store closed (told_in parts)) (sym is)
    (let mark = r.fault P T accepts' starts in record {
      answers = r.legal_after P T accepts' starts;
      failed = mark.is ∙ ap marked (sym (failed_first (told_in c.in-Ok-serve.parts.items) mark.failed mark.lines_are));
    }) in
    let run : (H : History) → IsFront P store H → IsRunBetween own_answers P (whole H store) (whole H closed) (told_in c.deref.result.now) =
    λ H front. subst (λ (parts : List Part). IsRunBetween own_answers P (whole H store) (whole H closed) (told_in parts)) (sym is)
    (let mark = r.fault P (trace P H) accepts' front.starts in record {
      legal = r.legal P H accepts' front;
      made = r.made P H accepts' front;
      failed = mark.is ∙ ap marked (sym (failed_first (told_in c.in-Ok-serve.parts.items) mark.failed mark.lines_are));
    }) in
    let lines : map (λ (t : Answered). t.line) (told_in c.deref.result.now) ≡ by_client (map entry_of c.args.lines.now) =
    ap (λ (parts : List Part). map (λ (t : Answered). t.line) (told_in parts)) is ∙ (r.lines ∙ c.in-Ok.ensures.lines) in
    subst (λ (z : Kept g.row.D.Denot × List Entry). IsClosedRun g.D.Disk.seen own_answers true P z.0 z.1
    c.end_served.result.outcome c.end_served.result.disk (g.K.Sink.seen c.args.out.now).contents (g.K.Sink.seen c.end_served.new.out).contents)
    (λ i. (lent i, lines i))
    (c.end_served.ensures.run P store r.stays after run)

pub returns-clause-run : goal.returns-clause-run
returns-clause-run g c = λ P accepts.
    let law = c.runs_over_a_store_are_legal.ensures in
    let laws : AreLegal = record { legal = law.legal; made = law.made; failed = law.failed } in
    let was = (g.K.Sink.seen c.args.out.now).contents in
    let only_now = (g.met.D.Disk g.world.𝓛 g.world.𝓜 g.world.𝓡 ((λ s x. x), (λ x. x), (λ x. x), (λ x. x))).only_now in
    let back = c.in-Err-serve.store in
    let same : back ≡ c.args.store = c.in-Err-serve.ensures.err.0 ∙ c.in-Ok-boarded_for.ensures.store in
    let lines = by_client (map entry_of c.args.lines.now) in
    subst (λ (s : Kept g.row.D.Denot). IsClosedRun g.D.Disk.seen own_answers true P s lines
    c.by-in-Err-serve.result.outcome c.by-in-Err-serve.result.disk was was) same
    (closed_at_once g.D.Disk.seen own_answers P was was only_now laws
    back lines c.by-in-Err-serve.result.disk c.by-in-Err-serve.result.outcome (ap (λ (s : Kept g.row.D.Denot). s.mark) same ∙ c.requires)
    (c.by-in-Err-serve.ensures.disk ∙ c.close-in-Err-serve.ensures.disk)
    (rw c.by-in-Err-serve.ensures.outcome tt) (rw c.by-in-Err-serve.ensures.outcome (λ answers. answers)))
