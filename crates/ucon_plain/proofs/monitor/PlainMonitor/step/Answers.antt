use Rattle.std.proofs.Common.{◌≡◌, ◌∙◌, sym, ap, subst, false}
use Rattle.ucon_model.specs.declared.command.Entry.{Entry}
use Rattle.ucon_model.specs.Action.{Trace}
use Rattle.ucon_model.specs.Block.{after, reply}
use Rattle.ucon_model.specs.History.{changes}
use Rattle.ucon_plain.specs.declared.monitor.PlainMonitor.{PlainMonitor}
use Rattle.ucon_plain.specs.Monitor.{IsReady}
use Rattle.ucon_plain.proofs.Blocks.{only_block}
use Rattle.ucon_plain.proofs.Standing.{trace_stays}
use Rattle.ucon_plain.proofs.monitor.PlainMonitor.step.Goals as goal
use Rattle.ucon_plain.proofs.monitor.PlainMonitor.step.Goals.{then-changes, else-changes}

pub returns-in_err-drafted-clause-legal : goal.returns-in_err-drafted-clause-legal
returns-in_err-drafted-clause-legal c = λ P H typed commands command. c.blocks_are_legal.ensures P typed H commands c.args.caller c.args.command.now command

pub returns-in_err-drafted-clause-only : goal.returns-in_err-drafted-clause-only
returns-in_err-drafted-clause-only c = λ P H actions. only_block c.settling_is_the_only_cascade.ensures P H c.args.caller c.args.command.now actions

pub returns-clause-follows : goal.returns-clause-follows
returns-clause-follows c = λ P T h.
    let e : Entry = record { caller = c.args.caller; command = c.args.command.now } in
    elim c.if-changes.branch [
      | then-changes w ↦
          let does = sym c.changes.ensures ∙ w.if-changes.true in
          subst (λ (m : PlainMonitor). IsReady m P (after P T e.caller e.command)) (sym w.self-is) (w.keep.ensures.follows P T e (c.in_ok-drafted.ensures.pending does P T h))
      | else-changes w ↦
          let doesnt = sym c.changes.ensures ∙ w.if-changes.false in
          let still : changes (reply P T e.caller e.command) ≡ false = ap changes (sym (c.in_ok-drafted.ensures.reply P T h)) ∙ doesnt in
          subst (λ (m : PlainMonitor). IsReady m P (after P T e.caller e.command)) (sym w.self-is)
          (subst (λ (U : Trace). IsReady c.draft.new.self P U) (sym (trace_stays P T e.caller e.command still)) (c.in_ok-drafted.ensures.unchanged doesnt P T h))
    ]

pub returns-clause-legal : goal.returns-clause-legal
returns-clause-legal c = λ P H typed commands command. c.blocks_are_legal.ensures P typed H commands c.args.caller c.args.command.now command

pub returns-clause-only : goal.returns-clause-only
returns-clause-only c = λ P H actions. only_block c.settling_is_the_only_cascade.ensures P H c.args.caller c.args.command.now actions
