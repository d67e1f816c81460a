use Rattle.std.proofs.Common.{◌≡◌, ◌∙◌, subst, sym}
use Rattle.ucon_model.specs.declared.command.Command.{Command}
use Rattle.ucon_model.specs.declared.command.Command.TheVariants.{Tick, Amend}
use Rattle.ucon_model.specs.Action.{extended}
use Rattle.ucon_state.specs.Shown.{shown}
use Rattle.ucon_readers.specs.Timers.{deadlines_in}
use Rattle.ucon_cascade.specs.Passing.{WereMade}
use Rattle.ucon_cascade.proofs.Monitored.{ok_then, on_ok}
use Rattle.ucon_cascade.proofs.Ticked.{due_ticked, may_pass, nobody_in, not_amendment, not_tick, timely_ticked, touched_ticked}
use Rattle.ucon_cascade.proofs.passing.follow_time.Goals as goal

pub returns-in-Amend-clause-timely : goal.returns-in-Amend-clause-timely
returns-in-Amend-clause-timely c =
    ok_then c.time_anew.result (λ timely P T caller actions were. timely P (extended T actions) were.follows) c.time_anew.ensures.timely

pub returns-in-Amend-clause-due : goal.returns-in-Amend-clause-due
returns-in-Amend-clause-due c = on_ok c.time_anew.result (λ P T caller t actions is were n on due.
    absurd (let no : Amend c.in-Amend.field-0 ≡ Tick t = sym c.in-Amend.is ∙ is in cc))

pub returns-in-Amend-clause-touched : goal.returns-in-Amend-clause-touched
returns-in-Amend-clause-touched c = on_ok c.time_anew.result (λ P T caller actions were n has. absurd (nobody_in c.args.work.now.members c.requires.no_work n has))

pub pass_deadlines-requires-clause-may : goal.pass_deadlines-requires-clause-may
pass_deadlines-requires-clause-may c =
    let s = shown c.args.state.now in
    let ds = deadlines_in c.args.timers.now in
    let made = c.requires.made in
    may_pass s ds c.args.work.now.members made.policy made.trace made.caller c.args.head.now c.in-Tick.field-0 made.actions
    (subst (λ (command : Command). WereMade s ds made.policy made.trace made.caller command c.args.head.now made.actions) c.in-Tick.is made.were) c.requires.no_work

pub returns-in-Tick-clause-timely : goal.returns-in-Tick-clause-timely
returns-in-Tick-clause-timely c =
    ok_then c.pass_deadlines.result (λ passes P T caller actions were.
    timely_ticked (shown c.args.state.now) (deadlines_in c.args.timers.now) (deadlines_in c.pass_deadlines.new.timers) c.args.work.now.members c.pass_deadlines.new.work.members P T caller c.args.command.now
    c.args.head.now c.in-Tick.field-0 actions c.in-Tick.is c.requires.no_work were passes) c.pass_deadlines.ensures.passed

pub returns-in-Tick-clause-due : goal.returns-in-Tick-clause-due
returns-in-Tick-clause-due c =
    ok_then c.pass_deadlines.result (λ passes P T caller t actions is were n on due.
    due_ticked (shown c.args.state.now) (deadlines_in c.args.timers.now) (deadlines_in c.pass_deadlines.new.timers) c.args.work.now.members c.pass_deadlines.new.work.members P T caller c.args.command.now
    c.args.head.now c.in-Tick.field-0 actions c.in-Tick.is c.requires.no_work were passes t is n on due) c.pass_deadlines.ensures.passed

pub returns-in-Tick-clause-touched : goal.returns-in-Tick-clause-touched
returns-in-Tick-clause-touched c =
    ok_then c.pass_deadlines.result (λ passes P T caller actions were n has.
    touched_ticked (shown c.args.state.now) (deadlines_in c.args.timers.now) (deadlines_in c.pass_deadlines.new.timers) c.args.work.now.members c.pass_deadlines.new.work.members P T caller c.args.command.now
    c.args.head.now c.in-Tick.field-0 actions c.in-Tick.is c.requires.no_work were passes n has) c.pass_deadlines.ensures.passed

pub returns-in-Tick-clause-undo : goal.returns-in-Tick-clause-undo
returns-in-Tick-clause-undo c = c.pass_deadlines.ensures.undo (deadlines_in c.args.timers.now) (c.undoing_gives_what_is_kept.ensures.timers c.args.timers.now c.requires.kept)

pub returns-in_default-clause-timely : goal.returns-in_default-clause-timely
returns-in_default-clause-timely c =
    ok_then c.follow_usage.result (λ timely P T caller actions were.
    timely P T caller c.args.command.now actions (not_amendment c.args.command.now c.in_default.not-Amend) (not_tick c.args.command.now c.in_default.not-Tick) were) c.follow_usage.ensures.timely

pub returns-in_default-clause-due : goal.returns-in_default-clause-due
returns-in_default-clause-due c = on_ok c.follow_usage.result (λ P T caller t actions is were n on due. absurd (c.in_default.not-Tick t is))

pub returns-in_default-clause-touched : goal.returns-in_default-clause-touched
returns-in_default-clause-touched c = on_ok c.follow_usage.result (λ P T caller actions were n has. absurd (nobody_in c.args.work.now.members c.requires.no_work n has))

pub returns-in_default-clause-undo : goal.returns-in_default-clause-undo
returns-in_default-clause-undo c = c.follow_usage.ensures.undo (deadlines_in c.args.timers.now) (c.undoing_gives_what_is_kept.ensures.timers c.args.timers.now c.requires.kept)
