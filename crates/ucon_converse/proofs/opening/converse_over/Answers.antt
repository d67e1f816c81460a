use Rattle.std.proofs.Common.{rules, ◌≡◌, sym, ap, subst, ◌∙◌}
use Rattle.std.specs.Prelude.{List, ℕ, Result, is_some}
use Rattle.ucon_outcome.specs.declared.outcome.Outcome.{Outcome}
use Rattle.ucon_outcome.specs.declared.outcome.Outcome.TheVariants as outcomes
use Rattle.ucon_outcome.specs.Ending.{IsCounted}
use Rattle.ucon_store.specs.Kept.{Kept}
use Rattle.ucon_tell.specs.Heard.{Hears}
use Rattle.ucon_tell.specs.declared.talk_fault.TalkFault.{TalkFault}
use Rattle.ucon_converse.specs.Answering.{Answering}
use Rattle.ucon_converse.specs.Ended.{IsTalkedOver, ended_so}
use Rattle.ucon_converse.proofs.Ended.{sink_counted, source_counted}
use Rattle.ucon_converse.proofs.opening.converse_over.Goals as goal

pub returns-clause-talked : goal.returns-clause-talked
returns-clause-talked g c =
    let seen = g.D.Disk.seen in
    let first = c.new-keeper.result in
    let closed = c.hold-talked.new.keeper in
    let hears : Result (Unit {0}) TalkFault → List ℕ → Type 0 =
    λ r heard. Hears r c.args.lines.now.held c.hold-talked.new.lines.held (g.S.Source.seen c.args.input.now).left (g.S.Source.seen c.hold-talked.new.input).left heard in
    let given_back : c.into_store-store.result ≡ closed.store = c.into_store-store.ensures in
    let there : is_some c.into_store-store.result.mark ≡ c.is_stopped.result = search rules in
    let failed : is_some closed.store.mark ≡ c.is_stopped.result = ap (λ (s : Kept g.row.D.Denot). is_some s.mark) (sym given_back) ∙ there in
    let over : IsTalkedOver seen first c.by.result.disk c.by.result.outcome (g.V.Voice.seen c.args.out.now) (g.V.Voice.seen c.hold-talked.new.out) hears = record {
      closed = closed;
      disk_is = c.by.ensures.disk ∙ (c.close.ensures.disk ∙ ap (λ (s : Kept g.row.D.Denot). s.disk) given_back);
      keeps = c.hold-talked.ensures.keeps;
      result = c.hold-talked.result;
      outcome_is = c.by.ensures.outcome ∙ (c.ended_by-outcome.ensures ∙ ap (ended_so c.hold-talked.result) (sym failed));
      answered = λ P T accepts starts. c.hold-talked.ensures.answered P T accepts starts;
      conversed = λ P G places accepts front unmarked. c.hold-talked.ensures.conversed P G places accepts front unmarked;
    } in
    subst (λ (s : Answering g.row.D.Denot). IsTalkedOver seen s c.by.result.disk c.by.result.outcome (g.V.Voice.seen c.args.out.now) (g.V.Voice.seen c.hold-talked.new.out) hears)
    c.new-keeper.ensures over

pub returns-clause-source : goal.returns-clause-source
returns-clause-source g c =
    let before = (g.S.Source.seen c.args.input.now).faults in
    let now = (g.S.Source.seen c.hold-talked.new.input).faults in
    subst (λ (o : Outcome). IsCounted o outcomes.SourceFault before now) (sym (c.by.ensures.outcome ∙ c.ended_by-outcome.ensures))
    (source_counted before now c.hold-talked.result c.is_stopped.result c.hold-talked.ensures.source_failed c.hold-talked.ensures.source_unfailed)

pub returns-clause-sink : goal.returns-clause-sink
returns-clause-sink g c =
    let before = (g.V.Voice.seen c.args.out.now).faults in
    let now = (g.V.Voice.seen c.hold-talked.new.out).faults in
    subst (λ (o : Outcome). IsCounted o outcomes.SinkFault before now) (sym (c.by.ensures.outcome ∙ c.ended_by-outcome.ensures))
    (sink_counted before now c.hold-talked.result c.is_stopped.result c.hold-talked.ensures.sink_failed c.hold-talked.ensures.sink_unfailed)
