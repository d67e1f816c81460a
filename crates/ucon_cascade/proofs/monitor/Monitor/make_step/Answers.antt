use Rattle.std.proofs.Common.{◌≡◌, ◌∙◌, arith, subst}
use Rattle.std.specs.Prelude.{None}
use Rattle.ucon_actions.specs.Gives.{Makes}
use Rattle.ucon_model.specs.Action.{Trace, extended}
use Rattle.ucon_model.specs.OwnActions.{own}
use Rattle.ucon_model.specs.Settle.{fails_at}
use Rattle.ucon_state.specs.Following.{Follows}
use Rattle.ucon_state.specs.Shown.{shown}
use Rattle.ucon_readers.specs.Readers.{first_of, readers_at}
use Rattle.ucon_readers.specs.Timers.{deadlines_in}
use Rattle.ucon_cascade.proofs.Monitored.{made_actions, made_after, made_reply, on_err, opening_on, stands_before}
use Rattle.ucon_cascade.specs.Timely.{AreTimely}
use Rattle.ucon_cascade.proofs.monitor.Monitor.make_step.Goals as goal

pub own_actions-requires : goal.own_actions-requires
own_actions-requires c = record { policy = c.requires.policy; trace = c.requires.trace; follows = c.requires.holds.stands.follows }

pub go_on-requires-clause-made : goal.go_on-requires-clause-made
go_on-requires-clause-made c =
    let P = c.requires.policy in
    let T = c.requires.trace in
    record {
      was = shown c.args.self.now.state;
      policy = P;
      trace = T;
      caller = c.args.caller;
      stood = c.requires.holds.stands;
      base = c.own_actions.ensures.base;
      made = rw c.in-Ok-Made.field-0-is at (c.in-Ok-Made.ensures.given P T c.requires.holds.stands.follows);
    }

pub returns-in-Err-NoMemory-clause-err : goal.returns-in-Err-NoMemory-clause-err
returns-in-Err-NoMemory-clause-err c = λ P T h.
    let r = c.args.self.now.readers in
    record {
      stood = readers_at r;
      first = first_of r;
      undone = c.undoing_gives_what_is_kept.ensures.readers r h.kept;
      was = deadlines_in c.args.self.now.timers;
      timers_undone = c.undoing_gives_what_is_kept.ensures.timers c.args.self.now.timers h.timers_kept;
      stands = stands_before (shown c.args.self.now.state) (shown c.own_actions.new.state) (readers_at r) (first_of r) (deadlines_in c.args.self.now.timers) P T c.own_actions.ensures.opening h.settled h.stands;
      limit = h.limit;
    }

pub returns-in_err-revoked-in-Ok-Made-clause-err : goal.returns-in_err-revoked-in-Ok-Made-clause-err
returns-in_err-revoked-in-Ok-Made-clause-err c = on_err c.from_residual.result (λ P T h.
    let s = shown c.args.self.now.state in
    let s1 = shown c.own_actions.new.state in
    let s2 = shown c.go_on.new.self.state in
    record {
      stood = readers_at c.args.self.now.readers;
      first = first_of c.args.self.now.readers;
      undone = c.go_on.ensures.undo;
      was = deadlines_in c.args.self.now.timers;
      timers_undone = c.go_on.ensures.timers_undo;
      stands = stands_before s s2 (readers_at c.args.self.now.readers) (first_of c.args.self.now.readers) (deadlines_in c.args.self.now.timers) P T (opening_on s s1 s2 c.own_actions.ensures.opening c.go_on.ensures.base) h.settled h.stands;
      limit = c.go_on.ensures.limit ∙ h.limit;
    })

pub returns-in_ok-revoked-in-Ok-Made-clause-reply : goal.returns-in_ok-revoked-in-Ok-Made-clause-reply
returns-in_ok-revoked-in-Ok-Made-clause-reply c = λ P T h.
    let s1 = shown c.own_actions.new.state in
    let given : Makes c.in-Ok-Made.head s1 P T (own P T c.args.caller c.args.command.now) = rw c.in-Ok-Made.field-0-is at (c.in-Ok-Made.ensures.given P T h.stands.follows) in
    let done = made_actions c.in-Ok-Made.head s1 P T _ given in
    made_reply P T c.args.caller c.args.command.now c.in-Ok-Made.head done.0 _ done.1 (c.in_ok-revoked-in-Ok-Made.ensures.revoked P (extended T done.0) done.2)

pub returns-in_ok-revoked-in-Ok-Made-clause-pending : goal.returns-in_ok-revoked-in-Ok-Made-clause-pending
returns-in_ok-revoked-in-Ok-Made-clause-pending c _ = λ P T h.
    let s = shown c.args.self.now.state in
    let s1 = shown c.own_actions.new.state in
    let s2 = shown c.go_on.new.self.state in
    let given : Makes c.in-Ok-Made.head s1 P T (own P T c.args.caller c.args.command.now) = rw c.in-Ok-Made.field-0-is at (c.in-Ok-Made.ensures.given P T h.stands.follows) in
    let done = made_actions c.in-Ok-Made.head s1 P T _ given in
    let after_it = made_after c.actions_are_done_in_order.ensures P T c.args.caller c.args.command.now c.in-Ok-Made.head done.0 done.1 in
    record {
      stands = record {
        follows = subst (λ (U : Trace). Follows s2 P U) after_it (c.in_ok-revoked-in-Ok-Made.ensures.leads P (extended T done.0) done.2);
        nobody = λ n. subst (λ (U : Trace). fails_at P U n ≡ None) after_it (c.nobody_fails_after_settling.ensures.nobody P (extended T done.0) n done.2.sound.numbered);
        exact = c.in_ok-revoked-in-Ok-Made.ensures.exact;
        grouped = c.in_ok-revoked-in-Ok-Made.ensures.grouped;
        timely = subst (λ (U : Trace). AreTimely (deadlines_in c.go_on.new.self.timers) P U) after_it
            (c.in_ok-revoked-in-Ok-Made.ensures.timely P T c.args.caller done.0
            (record { sound = h.stands.follows.sound; nobody = h.stands.nobody; made = done.1; follows = done.2; timely = h.stands.timely }));
      };
      back = record {
        stood = readers_at c.args.self.now.readers;
        first = first_of c.args.self.now.readers;
        undone = c.go_on.ensures.undo;
        was = deadlines_in c.args.self.now.timers;
        timers_undone = c.go_on.ensures.timers_undo;
        stands = stands_before s s2 (readers_at c.args.self.now.readers) (first_of c.args.self.now.readers) (deadlines_in c.args.self.now.timers) P T (opening_on s s1 s2 c.own_actions.ensures.opening c.go_on.ensures.base) h.settled h.stands;
        limit = c.go_on.ensures.limit ∙ h.limit;
      };
      no_work = c.in_ok-revoked-in-Ok-Made.ensures.done;
    }

pub returns-in_err-revoked-in-Ok-Made-clause-cost : goal.returns-in_err-revoked-in-Ok-Made-clause-cost
returns-in_err-revoked-in-Ok-Made-clause-cost c = λ P T h.
    let s1 = shown c.own_actions.new.state in
    let given : Makes c.in-Ok-Made.head s1 P T (own P T c.args.caller c.args.command.now) = rw c.in-Ok-Made.field-0-is at (c.in-Ok-Made.ensures.given P T h.stands.follows) in
    let done = made_actions c.in-Ok-Made.head s1 P T _ given in
    c.go_on.ensures.cost P T c.args.caller done.0
    (record { sound = h.stands.follows.sound; nobody = h.stands.nobody; made = done.1; follows = done.2; timely = h.stands.timely })

pub returns-in_ok-revoked-in-Ok-Made-clause-cost : goal.returns-in_ok-revoked-in-Ok-Made-clause-cost
returns-in_ok-revoked-in-Ok-Made-clause-cost c = λ P T h.
    let s1 = shown c.own_actions.new.state in
    let given : Makes c.in-Ok-Made.head s1 P T (own P T c.args.caller c.args.command.now) = rw c.in-Ok-Made.field-0-is at (c.in-Ok-Made.ensures.given P T h.stands.follows) in
    let done = made_actions c.in-Ok-Made.head s1 P T _ given in
    c.go_on.ensures.cost P T c.args.caller done.0
    (record { sound = h.stands.follows.sound; nobody = h.stands.nobody; made = done.1; follows = done.2; timely = h.stands.timely })

pub returns-in-Err-NoMemory-clause-cost : goal.returns-in-Err-NoMemory-clause-cost
returns-in-Err-NoMemory-clause-cost c = λ P T h. omega arith

pub returns-in-Err-Refused-clause-cost : goal.returns-in-Err-Refused-clause-cost
returns-in-Err-Refused-clause-cost c = λ P T h. omega arith

pub returns-in-Ok-Value-clause-cost : goal.returns-in-Ok-Value-clause-cost
returns-in-Ok-Value-clause-cost c = λ P T h. omega arith

pub returns-in-Ok-Status-clause-cost : goal.returns-in-Ok-Status-clause-cost
returns-in-Ok-Status-clause-cost c = λ P T h. omega arith
