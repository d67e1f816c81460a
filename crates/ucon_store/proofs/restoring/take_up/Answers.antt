use Rattle.std.proofs.Common.{◌≡◌, ◌++◌, Some, sym, ap, ◌∙◌, subst}
use Rattle.ucon_model.specs.Plain.{Bytes}
use Rattle.ucon_model.specs.Settle.{least_failing}
use Rattle.ucon_model.specs.Work.{NobodyFails}
use Rattle.ucon_point.specs.Faults.{IsBadAt}
use Rattle.ucon_point.specs.PointRead.{point_read}
use Rattle.ucon_engine.specs.declared.restore_fault.RestoreFault.{RestoreFault}
use Rattle.ucon_engine.specs.Engine.{IsCause}
use Rattle.ucon_state.specs.Following.{AfterEach}
use Rattle.ucon_state.specs.Shown.{Shown, shown}
use Rattle.ucon_store.proofs.Restored.{other_count, shown_read, takes_up, unread_none, unsettled}
use Rattle.ucon_store.proofs.restoring.take_up.Goals as goal

pub returns-in-Err-BadPlace : goal.returns-in-Err-BadPlace
returns-in-Err-BadPlace g c =
    let payload = c.args.payload.now in
    unread_none c.checkpoints_of_traces_are_read_back.ensures.read c.args.entries payload c.in-Err-BadPlace.field-0-0
    (subst (IsBadAt (point_read payload)) c.in-Err-BadPlace.field-0-is c.in-Err-BadPlace.ensures.read)

pub returns-then-point-entries : goal.returns-then-point-entries
returns-then-point-entries g c =
    let payload = c.args.payload.now in
    let r = c.in-Ok.ensures.read in
    other_count c.tables_keep_what_is_followed.ensures c.states_follow_what_reads_alike.ensures c.points_are_read_back.ensures.read c.rows_make_what_they_say.ensures.followed
    c.checkpoints_of_traces_are_read_back.ensures.read c.args.entries payload r.said r.come r.end r.made (λ same. c.if-point-entries.true (r.entries ∙ same))

pub returns-in-Err-Unsettled : goal.returns-in-Err-Unsettled
returns-in-Err-Unsettled g c =
    let payload = c.args.payload.now in
    let p = c.in-Ok.point in
    let r = c.in-Ok.ensures.read in
    let n = c.in-Err-Unsettled.field-0-0 in
    let label = c.in-Err-Unsettled.field-0-1 in
    let fails = subst (λ (f : RestoreFault). IsCause (shown p.state) f) c.in-Err-Unsettled.field-0-is c.in-Err-Unsettled.ensures in
    unsettled c.tables_keep_what_is_followed.ensures c.states_follow_what_reads_alike.ensures c.points_are_read_back.ensures.read c.rows_make_what_they_say.ensures.followed c.checkpoints_of_traces_are_read_back.ensures.read
    c.args.entries payload r.said r.come r.end r.made n label
    (subst (λ (s : Shown). AfterEach s (λ P T. least_failing P T ≡ Some (n, label))) (shown_read (point_read payload) p r) fails)

pub returns : goal.returns
returns g c =
    let payload = c.args.payload.now in
    let p = c.in-Ok.point in
    let r = c.in-Ok.ensures.read in
    let engine = c.in-Ok-restore.engine in
    let kept : c.extend_from_slice.new.self.items ≡ payload = c.in_ok-extend_from_slice.ensures.items ∙ ap (λ (l : Bytes). l ++ payload) c.new-kept.ensures.items in
    takes_up c.tables_keep_what_is_followed.ensures c.states_follow_what_reads_alike.ensures c.points_are_read_back.ensures.read c.rows_make_what_they_say.ensures.followed c.checkpoints_of_traces_are_read_back.ensures.read
    c.args.entries payload r.said r.come r.end r.made g.E.Engine.follows engine _ _ c.usages_stay_few.ensures.revocations
    (subst (λ (s : Shown). AfterEach s (λ P T. g.E.Engine.follows engine P T × NobodyFails P T)) (shown_read (point_read payload) p r) c.in-Ok-restore.ensures)
    (sym r.entries ∙ c.if-point-entries.false) kept (c.into_vec-text.ensures ∙ r.text)
