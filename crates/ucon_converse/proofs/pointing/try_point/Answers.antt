use Rattle.std.proofs.Common.{sym, subst}
use Rattle.ucon_model.specs.History.{trace}
use Rattle.ucon_store.specs.Starts.{checkpoint_behind}
use Rattle.ucon_converse.specs.declared.points.Points.{Points}
use Rattle.ucon_converse.specs.Answering.{answering}
use Rattle.ucon_converse.specs.Holding.{standing}
use Rattle.ucon_converse.specs.Keeping.{IsDated, Keeps}
use Rattle.ucon_converse.specs.Replies.{IsPointed}
use Rattle.ucon_converse.proofs.Checkpoints.{keeps_tried, pointed_so, why_behind}
use Rattle.ucon_converse.proofs.Reaching.{point_still}
use Rattle.ucon_converse.proofs.pointing.try_point.Goals as goal

pub returns-clause-pointed : goal.returns-clause-pointed
returns-clause-pointed g c = λ P G places accepts front.
    let s = c.point-said.ensures in
    let was = c.args.store.now in
    let now = c.point-said.new.self in
    let points = c.args.points.now in
    subst (λ (p : Points). IsPointed (IsDated (g.D.Disk.seen was.disk).contents) P was.policy (standing G places (answering was points)) (standing G places (answering now p)) c.point-said.result)
    (sym c.note.ensures)
    (pointed_so g.D.Disk.seen P was now points G places front c.point-said.result s.stopped s.same (why_behind g.D.Disk.seen P (trace P G) was c.point-said.result accepts front.starts s.why)
    s.pointed s.failed c.place.result c.place.ensures.place s.stays.before)

pub returns-clause-still : goal.returns-clause-still
returns-clause-still g c = λ P T.
    let s = c.point-said.ensures in
    point_still g.D.Disk.seen P T c.args.store.now c.point-said.new.self s.stays.before c.point-said.result s.same s.pointed s.failed

pub returns-clause-keeps : goal.returns-clause-keeps
returns-clause-keeps g c =
    let s = c.point-said.ensures in
    let was = c.args.store.now in
    let now = c.point-said.new.self in
    let points = c.args.points.now in
    let led = c.requires in
    subst (λ (p : Points). Keeps g.D.Disk.seen (answering was points) (answering now p)) (sym c.note.ensures)
    (keeps_tried g.D.Disk.seen g.met.D.Disk.only_now g.met.D.Disk.as_read g.met.D.Disk.counts_now was now points
    (checkpoint_behind was.policy was.point was.before led.P led.begun was.entries) c.point-said.result c.place.result s.stays s.stopped
    (λ file unmarked told. s.adds led.P led.begun file led.accepts led.starts unmarked told) s.inside s.same s.failed s.at_rest s.added s.pointed)
