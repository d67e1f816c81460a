use Rattle.std.proofs.Common.{rules, ◌≡◌, ◌∷◌, [], Ok, refl, sym, subst, ◌∙◌}
use Rattle.std.specs.Prelude.{None, Some}
use Rattle.ucon_model.specs.declared.command.Command.{Command}
use Rattle.ucon_model.specs.declared.command.Entry.{Entry}
use Rattle.ucon_syntax.specs.Policies.{accepted}
use Rattle.ucon_model.specs.Action.{Trace}
use Rattle.ucon_model.specs.Plain.{PlainPolicy}
use Rattle.ucon_store.specs.Starts.{IsStart}
use Rattle.ucon_store.specs.Steps.{IsPlacedBehind, step_payload}
use Rattle.ucon_converse.specs.Holding.{stands}
use Rattle.ucon_converse.specs.Reached.{IsStepAt, reached_by}
use Rattle.ucon_converse.specs.Replies.{IsStep}
use Rattle.ucon_converse.specs.Said.{answer_said}
use Rattle.ucon_converse.proofs.Checkpoints.{keeps_nothing, keeps_steps}
use Rattle.ucon_converse.proofs.Reaching.{steps_at}
use Rattle.ucon_converse.proofs.Stepping.{if_ok, store_steps}
use Rattle.ucon_converse.proofs.Unpointed.{places_unpointed, step_unpointed}
use Rattle.ucon_converse.proofs.requests.take.Goals as goal

pub returns-clause-step : goal.returns-clause-step
returns-clause-step g c = λ P G points tried command accepts front says.
    let s = c.step.ensures in
    let was = c.args.store.now in
    let now = c.step.new.self in
    let both : Ok c.in_ok-command.command ≡ Ok command = sym c.in_ok-command.ensures ∙ says in
    let same : c.in_ok-command.command ≡ command = cc both in
    subst (λ (k : Command). IsStep P (stands G points tried was) (stands G points tried now)
    (record { line = record { caller = c.args.request.now.caller; command = k }; answer = answer_said c.step.result })) same
    (store_steps g.D.Disk.seen (accepted was.policy) P accepts was now G points tried front
    (record { caller = c.args.request.now.caller; command = c.in_ok-command.command }) c.step.result s.stopped s.placed s.no_memory s.still s.failed)

pub returns-clause-step_at : goal.returns-clause-step_at
returns-clause-step_at g c = λ P T command accepts starts says.
    let s = c.step.ensures in
    let was = c.args.store.now in
    let now = c.step.new.self in
    let both : Ok c.in_ok-command.command ≡ Ok command = sym c.in_ok-command.ensures ∙ says in
    let same : c.in_ok-command.command ≡ command = cc both in
    subst (λ (k : Command). IsStepAt P (reached_by P T was) (reached_by P T now)
    (record { line = record { caller = c.args.request.now.caller; command = k }; answer = answer_said c.step.result })) same
    (steps_at g.D.Disk.seen P T was now s.stays.before (accepted was.policy) accepts starts
    (record { caller = c.args.request.now.caller; command = c.in_ok-command.command }) c.step.result s.stopped s.placed_behind s.no_memory s.still s.failed_behind)

pub returns-clause-unmarked : goal.returns-clause-unmarked
returns-clause-unmarked g c =
    let led = c.requires.led in
    if_ok c.step.result (λ p. (P : PlainPolicy) (T : Trace) → accepted c.args.store.now.policy ≡ Some P → IsStart P c.args.store.now.point c.args.store.now.before T
    → IsPlacedBehind P T c.args.store.now c.step.new.self (record { caller = c.args.request.now.caller; command = c.in_ok-command.command }) p)
    (c.step.new.self.mark ≡ None) (λ p placed. (placed led.P led.begun led.accepts led.starts).unmarked) c.step.ensures.placed_behind

pub returns-clause-keeps : goal.returns-clause-keeps
returns-clause-keeps g c = λ made tried.
    let led = c.requires.led in
    let was = c.args.store.now in
    let now = c.step.new.self in
    let e : Entry = record { caller = c.args.request.now.caller; command = c.in_ok-command.command } in
    let none : was.mark ≡ None = search rules in
    keeps_steps g.D.Disk.seen g.met.D.Disk.only_now g.met.D.Disk.as_read g.met.D.Disk.counts_now was now made tried
    (step_payload led.P led.begun was.entries e ∷ [])
    (places_unpointed (step_payload led.P led.begun was.entries e ∷ []) (step_unpointed led.P led.begun was.entries e c.requires.few, tt))
    c.step.ensures.stays c.step.ensures.stays.mark
    (λ file unmarked told. c.step.ensures.adds led.P led.begun file led.accepts led.starts unmarked told) none

pub returns-then-is_stopped-clause-keeps : goal.returns-then-is_stopped-clause-keeps
returns-then-is_stopped-clause-keeps g c = λ made tried.
    keeps_nothing g.D.Disk.seen g.met.D.Disk.only_now g.met.D.Disk.as_read g.met.D.Disk.counts_now c.args.store.now c.args.store.now made tried refl

pub returns-in_err-command-clause-keeps : goal.returns-in_err-command-clause-keeps
returns-in_err-command-clause-keeps g c = λ made tried.
    keeps_nothing g.D.Disk.seen g.met.D.Disk.only_now g.met.D.Disk.as_read g.met.D.Disk.counts_now c.args.store.now c.args.store.now made tried refl
