use Rattle.std.proofs.Common.{sym, subst, ◌∙◌}
use Rattle.ucon_outcome.specs.declared.outcome.Outcome.{Outcome}
use Rattle.ucon_outcome.specs.declared.outcome.Outcome.TheVariants.{SinkFault}
use Rattle.ucon_top.specs.Ending.{IsCounted}
use Rattle.ucon_top.specs.PointEnding.{IsOfPoint}
use Rattle.ucon_top.proofs.Closing.{counted}
use Rattle.ucon_top.proofs.Pointing.{of_told, same_end, told_end}
use Rattle.ucon_top.proofs.point.point_opened.Goals as goal

pub returns-in-Ok-clause-of_point : goal.returns-in-Ok-clause-of_point
returns-in-Ok-clause-of_point g c =
    subst (λ (o : Outcome). IsOfPoint o) (sym c.by.ensures.outcome) (of_told c.tell_point.result _ _ _ _ _ c.tell_point.ensures).0

pub returns-in-Ok-clause-failed : goal.returns-in-Ok-clause-failed
returns-in-Ok-clause-failed g c = λ is.
    absurd ((of_told c.tell_point.result _ _ _ _ _ c.tell_point.ensures).1 (sym c.by.ensures.outcome ∙ is))

pub returns-in-Ok-clause-ends : goal.returns-in-Ok-clause-ends
returns-in-Ok-clause-ends g c = λ P T accepts starts.
    rw (c.by.ensures.outcome, c.by.ensures.disk) (
    told_end g.D.Disk.seen P c.args.store c.in-Ok.disk (g.K.Sink.seen c.args.out.now).contents
    (g.K.Sink.seen c.tell_point.new.out).contents (g.K.Sink.seen c.args.out.now).faults (g.K.Sink.seen c.tell_point.new.out).faults c.tell_point.result c.in-Ok.entries c.in-Ok.ensures.entries
    (c.in-Ok.ensures.put P) c.tell_point.ensures
    )

pub returns-in-Err-clause-ends : goal.returns-in-Err-clause-ends
returns-in-Err-clause-ends g c = λ P T accepts starts.
    let was = (g.K.Sink.seen c.args.out.now).contents in
    rw (c.by-in-Err.ensures.outcome, c.by-in-Err.ensures.disk) (
    same_end g.D.Disk.seen P c.args.store c.in-Err.disk was was c.in-Err.outcome c.in-Err.ensures.of_none
    (c.in-Err.ensures.ends P T accepts starts)
    )

pub returns-in-Ok-clause-sink : goal.returns-in-Ok-clause-sink
returns-in-Ok-clause-sink g c =
    subst (λ (o : Outcome). IsCounted o SinkFault (g.K.Sink.seen c.args.out.now).faults (g.K.Sink.seen c.tell_point.new.out).faults) (sym c.by.ensures.outcome)
    (counted c.tell_point.result _ _ _ _ _ _ c.tell_point.ensures)

pub returns-in-Ok-clause-grows : goal.returns-in-Ok-clause-grows
returns-in-Ok-clause-grows g c = rw c.by.ensures.disk c.in-Ok.ensures.grows_put

pub returns-in-Err-clause-grows : goal.returns-in-Err-clause-grows
returns-in-Err-clause-grows g c = rw c.by-in-Err.ensures.disk c.in-Err.ensures.grows
