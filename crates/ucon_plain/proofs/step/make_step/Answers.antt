use Rattle.std.proofs.Common.{◌≡◌, subst}
use Rattle.std.specs.Prelude.{None}
use Rattle.ucon_model.specs.Action.{Trace, extended}
use Rattle.ucon_model.specs.OwnActions.{own}
use Rattle.ucon_model.specs.Settle.{fails_at}
use Rattle.ucon_actions.specs.Gives.{Makes}
use Rattle.ucon_state.specs.Following.{Follows}
use Rattle.ucon_state.specs.Shown.{shown}
use Rattle.ucon_plain.proofs.Standing.{made_actions, made_after}
use Rattle.ucon_plain.proofs.step.make_step.Goals as goal

pub settle-requires : goal.settle-requires
settle-requires c =
    let P = c.requires.policy in
    let T = c.requires.trace in
    let s1 = shown c.own_actions.new.state in
    let given : Makes c.in-Ok-Made.head s1 P T (own P T c.args.caller c.args.command.now) = rw c.in-Ok-Made.field-0-is at (c.in-Ok-Made.ensures.given P T c.requires.follows) in
    let done = made_actions c.in-Ok-Made.head s1 P T _ given in
    record { policy = P; trace = extended T done.0; follows = done.2 }

pub returns-in_ok-revoked-in-Ok-Made-clause-changed : goal.returns-in_ok-revoked-in-Ok-Made-clause-changed
returns-in_ok-revoked-in-Ok-Made-clause-changed c _ = λ P T h.
    let s1 = shown c.own_actions.new.state in
    let given : Makes c.in-Ok-Made.head s1 P T (own P T c.args.caller c.args.command.now) = rw c.in-Ok-Made.field-0-is at (c.in-Ok-Made.ensures.given P T h) in
    let done = made_actions c.in-Ok-Made.head s1 P T _ given in
    subst (λ (U : Trace). Follows (shown c.settle.new.state) P U) (made_after c.actions_are_done_in_order.ensures P T c.args.caller c.args.command.now c.in-Ok-Made.head done.0 done.1)
    (c.in_ok-revoked-in-Ok-Made.ensures.leads P (extended T done.0) done.2)

pub returns-in_ok-revoked-in-Ok-Made-clause-nobody : goal.returns-in_ok-revoked-in-Ok-Made-clause-nobody
returns-in_ok-revoked-in-Ok-Made-clause-nobody c _ = λ P T h n.
    let s1 = shown c.own_actions.new.state in
    let given : Makes c.in-Ok-Made.head s1 P T (own P T c.args.caller c.args.command.now) = rw c.in-Ok-Made.field-0-is at (c.in-Ok-Made.ensures.given P T h) in
    let done = made_actions c.in-Ok-Made.head s1 P T _ given in
    subst (λ (U : Trace). fails_at P U n ≡ None) (made_after c.actions_are_done_in_order.ensures P T c.args.caller c.args.command.now c.in-Ok-Made.head done.0 done.1)
    (c.nobody_fails_after_settling.ensures.nobody P (extended T done.0) n done.2.sound.numbered)
