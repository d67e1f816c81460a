use Rattle.std.proofs.Common.{◌++◌, None, Err, sym, ap, ◌∙◌, subst}
use Rattle.ucon_disk.specs.Run.{LeavesAfter, LeavesOnly}
use Rattle.ucon_model.specs.History.{trace}
use Rattle.ucon_store.specs.Keeping.{GrowsFrom}
use Rattle.ucon_store.specs.Pointing.{IsFoundPointed}
use Rattle.ucon_store.specs.Points.{point_places}
use Rattle.ucon_outcome.specs.declared.outcome.Outcome.{Outcome}
use Rattle.ucon_top.specs.PointEnding.{EndsPoint}
use Rattle.ucon_top.proofs.Pointing.{put_so, refused_end}
use Rattle.ucon_top.proofs.point.put_point.Goals as goal

pub returns-in-Ok-clause-put : goal.returns-in-Ok-clause-put
returns-in-Ok-clause-put g c = λ P.
    let seen = g.D.Disk.seen in
    let told = c.in-Ok.ensures in (
      λ G f. put_so seen G c.args.store c.point-pointed.new.self c.close-disk.result c.close-disk.ensures.disk
          told.pointed.0 c.point-pointed.ensures.stays (λ file. c.point-pointed.ensures.inside P G file f)
          (λ before file. told.added P G before file f) P (told.founded P G f)
          f.front (told.fits P (trace P G) f.accepts f.front.starts),
      told.second,
      ap (λ d. (seen d).faults) c.close-disk.ensures.disk ∙ told.unfailed,
    )

pub returns-in-Err-clause-ends : goal.returns-in-Err-clause-ends
returns-in-Err-clause-ends g c = λ P T accepts starts.
    let seen = g.D.Disk.seen in
    let store = c.args.store in
    let disk = c.close-disk.result in
    let fault = c.in-Err.fault in
    let point = c.point-pointed.ensures in
    let closed = c.close-disk.ensures.disk in
    subst (λ (o : Outcome). EndsPoint seen P store disk None None o) (sym c.from.ensures)
    (refused_end seen P store disk fault
    (λ other. closed ∙ ap (λ s. s.disk) (c.in-Err.ensures.same other)) c.requires T starts
    (λ U leads. c.in-Err.ensures.why P U accepts leads)
    (λ G f file is. subst (λ d. LeavesOnly (seen store.disk) (seen d) (IsFoundPointed store.policy (G ++ store.entries) (point_places file))) (sym closed)
    (point.inside P G file f is))
    (λ is. ap (λ d. (seen d).faults) closed ∙ (point.failed (c.in-Err.is ∙ ap Err is)).rose))

pub returns-in-Ok-clause-grows_put : goal.returns-in-Ok-clause-grows_put
returns-in-Ok-clause-grows_put g c =
    let seen = g.D.Disk.seen in
    subst (λ d. LeavesAfter (seen c.args.store.disk) (seen d) GrowsFrom) (sym c.close-disk.ensures.disk) c.point-pointed.ensures.stays.grows

pub returns-in-Err-clause-grows : goal.returns-in-Err-clause-grows
returns-in-Err-clause-grows g c =
    let seen = g.D.Disk.seen in
    subst (λ d. LeavesAfter (seen c.args.store.disk) (seen d) GrowsFrom) (sym c.close-disk.ensures.disk) c.point-pointed.ensures.stays.grows
