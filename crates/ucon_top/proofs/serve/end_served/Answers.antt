use Rattle.std.proofs.Common.{true, rules, ◌≡◌, ◌<◌, List, map, sym, subst, ◌∙◌, arith}
use Rattle.std.specs.Prelude.{is_some}
use Rattle.ucon_base.specs.Elements.{Each, each_map}
use Rattle.ucon_model.specs.LegalRun.{Answered, own_answers}
use Rattle.ucon_model.specs.Plain.{Bytes}
use Rattle.ucon_client.specs.Answers.{told_in}
use Rattle.ucon_outcome.specs.declared.outcome.Outcome.{Outcome}
use Rattle.ucon_outcome.specs.declared.outcome.Outcome.TheVariants.{SinkFault}
use Rattle.ucon_top.specs.Ending.{IsCounted}
use Rattle.ucon_top.specs.Closing.{IsClosedRun, IsWritten}
use Rattle.ucon_top.proofs.Closing.{counted}
use Rattle.ucon_top.proofs.Serving.{closed_untold, closed_written}
use Rattle.ucon_top.proofs.serve.end_served.Goals as goal

pub returns-in-Ok-clause-run : goal.returns-in-Ok-clause-run
returns-in-Ok-clause-run g c = λ P opened stays after run.
    let closed = c.args.store in
    let told : List Answered = told_in c.args.parts.now in
    let before = (g.K.Sink.seen c.args.out.now).contents in
    let now = (g.K.Sink.seen c.write_output.new.out).contents in
    let failed = (g.K.Sink.seen c.args.out.now).faults in
    let fails = (g.K.Sink.seen c.write_output.new.out).faults in
    let stopped = c.is_stopped-stopped.result in
    let is_stopped : is_some closed.mark ≡ stopped = search rules in
    let written : IsWritten c.write_output.result c.in-Ok.text.items stopped before now failed fails =
    subst (λ (t : Bytes). IsWritten c.write_output.result t stopped before now failed fails) c.deref.ensures.value c.write_output.ensures in
    let clients : Each (λ t. t.line.caller.0 < 256) told =
    each_map (λ (t : Answered). t.line.caller.0 < 64) (λ (t : Answered). t.line.caller.0 < 256) (λ t lt. omega (arith, lt)) told c.requires.clients in
    subst (λ (o : Outcome). IsClosedRun g.D.Disk.seen own_answers true P opened
    (map (λ (t : Answered). t.line) told) o c.by.result.disk before now) (sym c.by.ensures.outcome)
    (closed_written g.D.Disk.seen own_answers P before now opened closed told
    c.by.result.disk stays after run (c.by.ensures.disk ∙ c.close-disk.ensures.disk)
    c.outputs_are_read_back.ensures c.write_output.result c.in-Ok.text.items stopped failed fails c.in-Ok.ensures.text c.in-Ok.ensures.fits clients is_stopped written)

pub returns-in-Err-clause-run : goal.returns-in-Err-clause-run
returns-in-Err-clause-run g c = λ P opened stays after run.
    let told : List Answered = told_in c.args.parts.now in
    let before = (g.K.Sink.seen c.args.out.now).contents in
    closed_untold g.D.Disk.seen own_answers P before before opened c.args.store told
    c.by-in-Err.result.disk stays after run (c.by-in-Err.ensures.disk ∙ c.close-disk.ensures.disk)
    c.by-in-Err.result.outcome (rw c.by-in-Err.ensures.outcome tt) (rw c.by-in-Err.ensures.outcome (λ answers. answers))

pub returns-in-Ok-clause-sink : goal.returns-in-Ok-clause-sink
returns-in-Ok-clause-sink g c =
    subst (λ (o : Outcome). IsCounted o SinkFault (g.K.Sink.seen c.args.out.now).faults (g.K.Sink.seen c.write_output.new.out).faults) (sym c.by.ensures.outcome)
    (counted c.write_output.result _ _ _ _ _ _ c.write_output.ensures)
