use Rattle.std.proofs.Common.{true, ◌≡◌, ◌<◌, Some, List, [], map, sym, ap, subst, ◌∙◌, inl, inr}
use Rattle.ucon_base.specs.Elements.{Each}
use Rattle.ucon_model.specs.declared.command.Entry.{Entry}
use Rattle.ucon_model.specs.Action.{Trace}
use Rattle.ucon_model.specs.History.{History, trace}
use Rattle.ucon_model.specs.LegalRun.{Answered, own_answers}
use Rattle.ucon_store.specs.Kept.{Kept}
use Rattle.ucon_store.specs.Marks.{marked}
use Rattle.ucon_store.specs.Starts.{IsStart}
use Rattle.ucon_store.specs.Whole.{IsFront, whole}
use Rattle.ucon_top.specs.Closing.{IsClosedRun}
use Rattle.ucon_top.specs.Stepping.{IsRunAfter, IsRunBetween}
use Rattle.ucon_top.proofs.Answering.{AreLegal, failed_first}
use Rattle.ucon_top.proofs.LiveEnds.{source_counted}
use Rattle.ucon_top.proofs.Serving.{closed_at_once}
use Rattle.ucon_top.proofs.live.live_lines.Goals as goal

pub returns-in-Ok-clause-run : goal.returns-in-Ok-clause-run
returns-in-Ok-clause-run g c = λ P accepts.
    let store = c.args.store in
    let lived = c.in-Ok.lived in
    let h = c.in-Ok.ensures.lived in
    let told = h.are_lived.told in
    let after : (T : Trace) → IsStart P store.point store.before T → IsRunAfter own_answers true P T store lived.store told =
    λ T starts. let mark = h.are_lived.run.fault P T accepts starts in record {
      answers = h.are_lived.run.legal_after P T accepts starts;
      failed = mark.is ∙ ap marked (sym (failed_first told mark.failed mark.lines_are));
    } in
    let run : (H : History) → IsFront P store H → IsRunBetween own_answers P (whole H store) (whole H lived.store) told =
    λ H front. let mark = h.are_lived.run.fault P (trace P H) accepts front.starts in record {
      legal = h.are_lived.run.legal P H accepts front;
      made = h.are_lived.run.made P H accepts front;
      failed = mark.is ∙ ap marked (sym (failed_first told mark.failed mark.lines_are));
    } in
    let e = c.end_lived.ensures.run P store told c.in-Ok.ensures.stays after run (λ none. (h.are_lived.whole none).1) in
    inl (record {
      lines = h.lines;
      stop = lived.stop;
      over = e.0;
      are_judged = h.are_judged;
      source_faults = source_counted lived.stop _ _ c.in-Ok.ensures.failed c.in-Ok.ensures.unfailed;
      of_run = e.1;
      run = subst (λ (es : List Entry). IsClosedRun g.D.Disk.seen own_answers true P store es e.0 c.end_lived.result.disk
          (g.K.Sink.seen c.args.out.now).contents (g.K.Sink.seen c.end_lived.new.out).contents) h.are_lived.lines_are e.3;
      ends = e.2;
    })

pub returns-in-Err-clause-run : goal.returns-in-Err-clause-run
returns-in-Err-clause-run g c = λ P accepts.
    let law = c.runs_over_a_store_are_legal.ensures in
    let laws : AreLegal = record { legal = law.legal; made = law.made; failed = law.failed } in
    let was = (g.K.Sink.seen c.args.out.now).contents in
    let only_now = (g.met.D.Disk g.world.𝓛 g.world.𝓜 g.world.𝓡 ((λ s x. x), (λ x. x), (λ x. x), (λ x. x))).only_now in
    let back = c.in-Err.store in
    let same : back ≡ c.args.store = c.in-Err.ensures.err in
    inr (record {
      unread = c.in-Err.ensures.unread;
      run = subst (λ (s : Kept g.row.D.Denot). IsClosedRun g.D.Disk.seen own_answers true P s [] c.by.result.outcome c.by.result.disk was was) same
          (closed_at_once g.D.Disk.seen own_answers P was was only_now laws
          back [] c.by.result.disk c.by.result.outcome (ap (λ (s : Kept g.row.D.Denot). s.mark) same ∙ c.requires)
          (c.by.ensures.disk ∙ c.close.ensures.disk)
          (rw c.by.ensures.outcome tt) (rw c.by.ensures.outcome (λ answers. answers)));
      of_memory = rw c.by.ensures.outcome tt;
    })
