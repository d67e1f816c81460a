use Rattle.std.proofs.Common.{true, rules, ◌≡◌, None, List, map, refl, sym, ap, subst, ◌∙◌}
use Rattle.ucon_model.specs.History.{History}
use Rattle.ucon_model.specs.LegalRun.{Answered, own_answers}
use Rattle.ucon_store.specs.Whole.{IsFront, whole as whole_of}
use Rattle.ucon_client.specs.Answers.{told_in}
use Rattle.ucon_outcome.specs.declared.outcome.Outcome.{Outcome}
use Rattle.ucon_outcome.specs.declared.outcome.Outcome.TheVariants as outcomes
use Rattle.ucon_top.specs.Closing.{IsClosedRun}
use Rattle.ucon_top.specs.Ending.{IsCounted}
use Rattle.ucon_top.specs.LiveEnding.{IsEndOf}
use Rattle.ucon_top.specs.Stepping.{IsRunAfter, IsRunBetween}
use Rattle.ucon_top.proofs.LiveEnds.{counted_end, unwritten_end}
use Rattle.ucon_top.proofs.Serving.{closed_untold}
use Rattle.ucon_top.proofs.live.end_lived.Goals as goal

pub returns-in-Some-clause-run : goal.returns-in-Some-clause-run
returns-in-Some-clause-run g c = λ P opened told stays after run whole.
    let before = (g.K.Sink.seen c.args.out.now).contents in
    let over : Outcome = outcomes.NoMemory c.in-Some.want in (
      over,
      (refl, refl),
      c.by.ensures.outcome,
      closed_untold g.D.Disk.seen own_answers P before before opened c.args.lived.store told
          c.by.result.disk stays after run (c.by.ensures.disk ∙ c.close.ensures.disk) over tt (λ answers. answers),
    )

pub returns-clause-run : goal.returns-clause-run
returns-clause-run g c = λ P opened told stays after run whole.
    let store = c.args.lived.store in
    let parts = c.args.lived.parts.items in
    let stop = c.args.lived.stop in
    let ended = c.end_served-outcome in
    let none : c.wanted.result ≡ None = search rules in
    let is : told ≡ told_in c.deref.result.now = whole (c.wanted.ensures none).0 ∙ ap told_in (sym c.deref.ensures.value) in
    let before = (g.K.Sink.seen c.args.out.now).contents in
    let now = (g.K.Sink.seen ended.new.out).contents in
    let closed : IsClosedRun g.D.Disk.seen own_answers true P opened (map (λ (t : Answered). t.line) told) ended.result.outcome ended.result.disk before now =
    subst (λ (ts : List Answered). IsClosedRun g.D.Disk.seen own_answers true P opened (map (λ (t : Answered). t.line) ts) ended.result.outcome ended.result.disk before now) (sym is)
    (ended.ensures.run P opened stays
    (λ T starts. subst (λ (ts : List Answered). IsRunAfter own_answers true P T opened store ts) is (after T starts))
    (λ H front. subst (λ (ts : List Answered). IsRunBetween own_answers P (whole_of H opened) (whole_of H store) ts) is (run H front))) in (
      ended.result.outcome,
      ended.ensures.of_run,
      subst (λ (o : Outcome). IsEndOf ended.result.outcome stop o) (sym c.by-2.ensures.outcome) c.ended_by.ensures,
      subst (λ (d : g.row.D.Denot). IsClosedRun g.D.Disk.seen own_answers true P opened (map (λ (t : Answered). t.line) told) ended.result.outcome d before now) (sym c.by-2.ensures.disk) closed,
    )

pub returns-clause-sink : goal.returns-clause-sink
returns-clause-sink g c =
    let ended = c.end_served-outcome in
    subst (λ (o : Outcome). IsCounted o outcomes.SinkFault (g.K.Sink.seen c.args.out.now).faults (g.K.Sink.seen ended.new.out).faults) (sym c.by-2.ensures.outcome)
    (counted_end ended.result.outcome c.args.lived.stop c.ended_by.result _ _ ended.ensures.of_run c.ended_by.ensures ended.ensures.sink)

pub returns-clause-unwritten : goal.returns-clause-unwritten
returns-clause-unwritten g c = λ want.
    let ended = c.end_served-outcome in
    ended.ensures.unwritten (unwritten_end ended.result.outcome c.args.lived.stop c.by-2.result.outcome ended.ensures.of_run
    (subst (λ (o : Outcome). IsEndOf ended.result.outcome c.args.lived.stop o) (sym c.by-2.ensures.outcome) c.ended_by.ensures) want)
