use Rattle.std.proofs.Common.{◌∙◌, ℕ, ap}
use Rattle.ucon_model.specs.Plain.{Bytes}
use Rattle.ucon_model.specs.Action.{extended}
use Rattle.ucon_model.specs.Settle.{revocation}
use Rattle.ucon_model.specs.Usages.{going_on}
use Rattle.ucon_state.specs.Shown.{shown}
use Rattle.ucon_readers.specs.Readers.{first_of, readers_at}
use Rattle.ucon_readers.specs.Timers.{deadlines_in}
use Rattle.ucon_cascade.proofs.Costing.{fewer_go_on}
use Rattle.ucon_cascade.proofs.Putting.{all_below}
use Rattle.ucon_cascade.proofs.Revoking.{is_revoked, left_exactly, revoking_is_paid, work_after}
use Rattle.ucon_cascade.proofs.Timing.{revocations_take_no_time, timely_without}
use Rattle.ucon_cascade.proofs.settle.revoke_next.Goals as goal

pub leave_list-requires : goal.leave_list-requires
leave_list-requires c =
    all_below (shown c.args.state.now) (readers_at c.args.readers.now) c.args.work.now.limit c.requires.exact (c.sessions_are_few.ensures c.args.state.now) c.requires.limit

pub put_targets-requires : goal.put_targets-requires
put_targets-requires c =
    let P = c.requires.following.policy in
    let T = c.requires.following.trace in
    let h = c.requires.following.follows in
    let s1 = shown c.revoke.new.state in
    let exact =
    left_exactly c.heads_tell_whose_usage_begins_or_ends.ensures.revoked c.heads_tell_whose_usage_begins_or_ends.ensures.others (shown c.args.state.now) s1
    (readers_at c.args.readers.now) (readers_at c.leave_list.new.readers) P T (c.args.n, c.args.label) h (c.in_ok-revoke.ensures.leads P T h) c.revoke.ensures.base
    c.requires.exact c.in_ok-leave_list.ensures.read in
    all_below s1 (readers_at c.leave_list.new.readers) c.leave_list.new.work.limit exact (c.sessions_are_few.ensures c.revoke.new.state) (c.leave_list.ensures.limit ∙ c.requires.limit)

pub returns-clause-exact : goal.returns-clause-exact
returns-clause-exact c =
    let P = c.requires.following.policy in
    let T = c.requires.following.trace in
    let h = c.requires.following.follows in
    left_exactly c.heads_tell_whose_usage_begins_or_ends.ensures.revoked c.heads_tell_whose_usage_begins_or_ends.ensures.others (shown c.args.state.now) (shown c.revoke.new.state)
    (readers_at c.args.readers.now) (readers_at c.leave_list.new.readers) P T (c.args.n, c.args.label) h (c.in_ok-revoke.ensures.leads P T h) c.revoke.ensures.base
    c.requires.exact c.in_ok-leave_list.ensures.read

pub returns-clause-work : goal.returns-clause-work
returns-clause-work c =
    let P = c.requires.following.policy in
    let T = c.requires.following.trace in
    let h = c.requires.following.follows in
    let s = shown c.args.state.now in
    let s1 = shown c.revoke.new.state in
    let f : ℕ × Bytes = (c.args.n, c.args.label) in
    let first = first_of c.args.readers.now in
    let new_first = first_of c.leave_list.new.readers in
    let standing = readers_at c.leave_list.new.readers in
    let h1 = c.in_ok-revoke.ensures.leads P T h in
    let old = c.args.work.now.members in
    let mid = c.leave_list.new.work.members in
    let new = c.put_targets.new.work.members in
    let revoked =
    is_revoked c.heads_tell_whose_usage_begins_or_ends.ensures.revoked c.heads_tell_whose_usage_begins_or_ends.ensures.others s s1 (readers_at c.args.readers.now) standing
    first new_first P T f old mid new h h1 c.revoke.ensures.base c.requires.exact c.requires.work.grouped c.in_ok-leave_list.ensures.read c.in_ok-leave_list.ensures.leaves
    c.in_ok-leave_list.ensures.stands c.in_ok-leave_list.ensures.members c.put_targets.ensures.members in
    work_after c.one_judgement_serves_all_alike.ensures.reads c.cells_are_of_one_attribute.ensures.whose c.updates_write_their_targets.ensures.policy
    c.updates_write_their_targets.ensures.sessions c.heads_tell_whose_usage_begins_or_ends.ensures.revoked c.heads_tell_whose_usage_begins_or_ends.ensures.others
    s s1 standing first new_first f old mid new c.requires.work revoked c.firsts_go_on_covering.ensures.fails c.tables_keep_what_is_followed.ensures
    c.readings_that_agree_are_one.ensures P T h h1

pub returns-clause-undo : goal.returns-clause-undo
returns-clause-undo c = λ standing first gives. c.leave_list.ensures.undo standing first gives

pub returns-clause-fewer : goal.returns-clause-fewer
returns-clause-fewer c =
    let P = c.requires.following.policy in
    let T = c.requires.following.trace in
    let h = c.requires.following.follows in
    fewer_go_on c.heads_tell_whose_usage_begins_or_ends.ensures.revoked c.heads_tell_whose_usage_begins_or_ends.ensures.others (shown c.args.state.now) (shown c.revoke.new.state)
    P T (c.args.n, c.args.label) h (c.in_ok-revoke.ensures.leads P T h)

pub returns-clause-paid : goal.returns-clause-paid
returns-clause-paid c =
    let P = c.requires.following.policy in
    let T = c.requires.following.trace in
    let h = c.requires.following.follows in
    let s = shown c.args.state.now in
    let s1 = shown c.revoke.new.state in
    let f : ℕ × Bytes = (c.args.n, c.args.label) in
    let first = first_of c.args.readers.now in
    let new_first = first_of c.leave_list.new.readers in
    let standing = readers_at c.leave_list.new.readers in
    let old = c.args.work.now.members in
    let mid = c.leave_list.new.work.members in
    let new = c.put_targets.new.work.members in
    let revoked =
    is_revoked c.heads_tell_whose_usage_begins_or_ends.ensures.revoked c.heads_tell_whose_usage_begins_or_ends.ensures.others s s1 (readers_at c.args.readers.now) standing
    first new_first P T f old mid new h (c.in_ok-revoke.ensures.leads P T h) c.revoke.ensures.base c.requires.exact c.requires.work.grouped c.in_ok-leave_list.ensures.read
    c.in_ok-leave_list.ensures.leaves c.in_ok-leave_list.ensures.stands c.in_ok-leave_list.ensures.members c.put_targets.ensures.members in
    revoking_is_paid c.one_judgement_serves_all_alike.ensures.reads c.cells_are_of_one_attribute.ensures.whose c.updates_write_their_targets.ensures.policy
    c.updates_write_their_targets.ensures.sessions c.heads_tell_whose_usage_begins_or_ends.ensures.revoked c.heads_tell_whose_usage_begins_or_ends.ensures.others
    s s1 standing first new_first f old mid new c.requires.work revoked c.judgements_are_paid_for.ensures.fails c.requires.fails c.in_ok-revoke.ensures.leads

pub returns-clause-timed : goal.returns-clause-timed
returns-clause-timed c = λ P T h timely.
    let f : ℕ × Bytes = (c.args.n, c.args.label) in
    timely_without (deadlines_in c.args.timers.now) (deadlines_in c.set.new.self) P T (extended T (revocation P T f)) (revocations_take_no_time P T f) c.args.n c.in_ok-set.ensures.gives
    (c.heads_tell_whose_usage_begins_or_ends.ensures.revoked P T f) (λ m other. ap going_on (c.heads_tell_whose_usage_begins_or_ends.ensures.others P T f m other)) timely
