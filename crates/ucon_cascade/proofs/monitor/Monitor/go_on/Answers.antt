use Rattle.std.proofs.Common.{arith, ◌<◌, ◌∙◌, inl, inr, subst, sym}
use Rattle.ucon_model.specs.Action.{extended}
use Rattle.ucon_model.specs.OwnActions.{own}
use Rattle.ucon_state.specs.Shown.{shown}
use Rattle.ucon_readers.specs.Timers.{deadlines_in}
use Rattle.ucon_cascade.specs.Cascading.{work_of}
use Rattle.ucon_cascade.specs.Passing.{WereMade}
use Rattle.ucon_readers.specs.Readers.{first_of, readers_at}
use Rattle.ucon_cascade.proofs.Alike.{covers_each}
use Rattle.ucon_cascade.proofs.Drafting.{draft_is_paid}
use Rattle.ucon_cascade.proofs.Making.{covers_made}
use Rattle.ucon_cascade.proofs.Monitored.{made_actions, ok_then, told_between, were_exact}
use Rattle.ucon_cascade.proofs.Putting.{all_below, going_on_below}
use Rattle.ucon_cascade.proofs.Firsts.{goes_after}
use Rattle.ucon_cascade.proofs.Sharing.{due_are_first, due_were_touched, own_too}
use Rattle.ucon_cascade.proofs.Touched.{own_work_was_touched}
use Rattle.ucon_cascade.proofs.monitor.Monitor.go_on.Goals as goal

pub follow_actions-requires-clause-were : goal.follow_actions-requires-clause-were
follow_actions-requires-clause-were c = λ same.
    let m = c.requires.made in
    let s1 = shown c.args.self.now.state in
    let done = made_actions c.args.head.now s1 m.policy m.trace (own m.policy m.trace m.caller c.args.command.now) m.made in
    were_exact c.heads_tell_whose_usage_begins_or_ends.ensures.own m.was s1 (readers_at c.args.self.now.readers) (first_of c.args.self.now.readers) m.policy m.trace m.caller c.args.command.now c.args.head.now done.0
    m.stood.follows done.2 done.1 (m.base same) m.stood.exact m.stood.grouped

pub put_own_work-requires-clause-below : goal.put_own_work-requires-clause-below
put_own_work-requires-clause-below c =
    all_below (shown c.args.self.now.state) (readers_at c.follow_actions.new.readers) c.follow_time.new.work.limit c.in_ok-follow_actions.ensures.exact (c.sessions_are_few.ensures c.args.self.now.state)
    (c.follow_time.ensures.limit ∙ c.requires.limit)

pub put_own_work-requires-clause-few : goal.put_own_work-requires-clause-few
put_own_work-requires-clause-few c =
    let few = c.sessions_are_few.ensures c.args.self.now.state in
    omega (arith, few, c.requires.limit, c.follow_time.ensures.limit)

pub put_own_work-requires-clause-permitted : goal.put_own_work-requires-clause-permitted
put_own_work-requires-clause-permitted c = λ n permitted.
    let m = c.requires.made in
    let s1 = shown c.args.self.now.state in
    let done = made_actions c.args.head.now s1 m.policy m.trace (own m.policy m.trace m.caller c.args.command.now) m.made in
    let told = told_between c.heads_tell_whose_usage_begins_or_ends.ensures.own m.was s1 m.policy m.trace m.caller c.args.command.now c.args.head.now done.0 m.stood.follows done.2 done.1 n in
    subst (λ limit. n < limit) (sym (c.follow_time.ensures.limit ∙ c.requires.limit)) (going_on_below s1 n (told.begun permitted).1 (c.sessions_are_few.ensures c.args.self.now.state))

pub settle-requires-clause-following : goal.settle-requires-clause-following
settle-requires-clause-following c =
    let m = c.requires.made in
    let s1 = shown c.args.self.now.state in
    let done = made_actions c.args.head.now s1 m.policy m.trace (own m.policy m.trace m.caller c.args.command.now) m.made in
    record { policy = m.policy; trace = extended m.trace done.0; follows = done.2 }

pub settle-requires-clause-work : goal.settle-requires-clause-work
settle-requires-clause-work c =
    let m = c.requires.made in
    let s1 = shown c.args.self.now.state in
    let done = made_actions c.args.head.now s1 m.policy m.trace (own m.policy m.trace m.caller c.args.command.now) m.made in
    let U = extended m.trace done.0 in
    let h = m.stood.follows in
    let members = c.put_own_work.new.work.members in
    let first = first_of c.follow_actions.new.readers in
    let grouped = c.in_ok-follow_actions.ensures.grouped in
    let were : WereMade s1 (deadlines_in c.args.self.now.timers) m.policy m.trace m.caller c.args.command.now c.args.head.now done.0 =
    record { sound = h.sound; nobody = m.stood.nobody; made = done.1; follows = done.2; timely = m.stood.timely } in
    record {
      grouped = grouped;
      covers =
          covers_each c.tables_keep_what_is_followed.ensures c.readings_that_agree_are_one.ensures s1 m.policy U done.2 (λ n. work_of members (first n))
          (covers_made c.firsts_go_on_covering.ensures.begins s1 (readers_at c.follow_actions.new.readers) first m.policy m.trace m.caller c.args.command.now c.args.head.now done.0 members
          done.2 c.in_ok-follow_actions.ensures.exact grouped done.1
          (c.work_is_read_off_afterwards.ensures.own m.policy m.trace m.caller c.args.command.now c.args.head.now done.0 h.sound.numbered h.sound.grounded h.sound.timely m.stood.nobody done.1)
          (c.own_work_is_read_off.ensures m.policy m.trace m.caller c.args.command.now c.args.head.now done.0 h.sound.grounded h.sound.timely m.stood.nobody done.1)
          (λ n concerned itself. (c.put_own_work.ensures.members n).1 (inl (concerned, itself)))
          (λ t is n on is_due. (c.put_own_work.ensures.members n).1
          (inr (c.in_ok-follow_time.ensures.due m.policy m.trace m.caller t done.0 is were n on is_due))));
      firsts = λ n has goes. elim ((c.put_own_work.ensures.members n).0 has) [
        | inl put ↦ put.1
        | inr before ↦
            due_are_first s1 first m.policy m.trace m.caller c.args.command.now c.args.head.now done.0 c.follow_time.new.work.members done.2 grouped done.1 c.follow_time.ensures.quiet
            (c.in_ok-follow_time.ensures.touched m.policy m.trace m.caller done.0 were) n before goes
      ];
    }

pub follow_time-requires-clause-made : goal.follow_time-requires-clause-made
follow_time-requires-clause-made c =
    let m = c.requires.made in
    let s1 = shown c.args.self.now.state in
    let done = made_actions c.args.head.now s1 m.policy m.trace (own m.policy m.trace m.caller c.args.command.now) m.made in
    record {
      policy = m.policy;
      trace = m.trace;
      caller = m.caller;
      actions = done.0;
      were = record { sound = m.stood.follows.sound; nobody = m.stood.nobody; made = done.1; follows = done.2; timely = m.stood.timely };
    }

pub follow_time-requires-clause-few : goal.follow_time-requires-clause-few
follow_time-requires-clause-few c =
    let few = c.sessions_are_few.ensures c.args.self.now.state in
    omega (arith, few, c.requires.limit)

pub returns-clause-undo : goal.returns-clause-undo
returns-clause-undo c = c.settle.ensures.undo (readers_at c.args.self.now.readers) (first_of c.args.self.now.readers) c.follow_actions.ensures.undo

pub returns-clause-timers_undo : goal.returns-clause-timers_undo
returns-clause-timers_undo c = c.settle.ensures.timers_undo (deadlines_in c.args.self.now.timers) c.in_ok-follow_time.ensures.undo

pub returns-clause-timely : goal.returns-clause-timely
returns-clause-timely c =
    ok_then c.settle.result
    (λ timed P T caller actions were. timed P (extended T actions) were.follows (c.in_ok-follow_time.ensures.timely P T caller actions were))
    c.settle.ensures.timed

pub returns-clause-cost : goal.returns-clause-cost
returns-clause-cost c = λ P T caller actions were.
    let s1 = shown c.args.self.now.state in
    let head = c.args.head.now in
    let command = c.args.command.now in
    let standing = readers_at c.follow_actions.new.readers in
    let first = first_of c.follow_actions.new.readers in
    let exact = c.in_ok-follow_actions.ensures.exact in
    let grouped = c.in_ok-follow_actions.ensures.grouped in
    draft_is_paid c.judgements_are_paid_for.ensures.begins c.drafts_are_blocks.ensures.block c.actions_are_done_in_order.ensures s1 P T caller command head actions
    first c.put_own_work.new.work.members c.args.steps.now c.settle.new.steps were.follows were.made
    (λ n on has. (let goes = goes_after s1 P (extended T actions) were.follows n on in elim ((c.put_own_work.ensures.members (first n)).0 has) [
      | inl put ↦
          own_work_was_touched c.cells_are_of_one_attribute.ensures.whose c.updates_write_their_targets.ensures.policy c.updates_write_their_targets.ensures.sessions
          c.heads_tell_whose_usage_begins_or_ends.ensures.own s1 standing P T caller head actions were.sound.numbered were.follows
          exact n on c.judgements_are_paid_for.ensures.own command were.made
          (own_too c.one_judgement_serves_all_alike.ensures.reads c.cells_are_of_one_attribute.ensures.whose s1 standing first P (extended T actions) were.follows exact grouped n on
          command head (λ k same is its. c.in_ok-follow_actions.ensures.alone k n same is goes its) put.0)
      | inr before ↦
          due_were_touched s1 first P T caller command head actions c.follow_time.new.work.members were.follows grouped were.made c.follow_time.ensures.quiet
          (c.in_ok-follow_time.ensures.touched P T caller actions were) n before goes
    ]))
    c.settle.ensures.cost
