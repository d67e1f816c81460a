use Rattle.std.proofs.Common.{rules, ◌≡◌, sym, ap, subst}
use Rattle.ucon_model.specs.declared.command.Entry.{Entry}
use Rattle.ucon_model.specs.Document.{entry_of as said_entry}
use Rattle.ucon_client.specs.declared.answer.Answer.{Answer}
use Rattle.ucon_client.specs.Answers.{answer_of, answered_by}
use Rattle.ucon_syntax.specs.Policies.{accepted}
use Rattle.ucon_store.specs.Whole.{whole}
use Rattle.ucon_trial.specs.OneAnswer.{entry_of}
use Rattle.ucon_top.specs.Stepping.{Steps, StepsAfter}
use Rattle.ucon_top.proofs.Stepwise.{store_steps, store_steps_after}
use Rattle.ucon_top.proofs.stepping.answer_line.Goals as goal

pub returns-in-Ok-clause-steps : goal.returns-in-Ok-clause-steps
returns-in-Ok-clause-steps g c = λ P G accepts front.
    let s = c.step.ensures in
    let was = c.args.store.now in
    let now = c.step.new.self in
    let line : Entry = record { caller = c.in-Ok.line.caller; command = c.in-Ok.line.command } in
    let is : line ≡ entry_of c.args.line.now = ap said_entry c.in-Ok.ensures in
    let gives : c.from.result ≡ answered_by c.step.result = search rules in
    subst (λ (z : Entry × Answer). Steps P (whole G was) (whole G now) z.0 (answer_of z.1)) (λ i. (is i, sym gives i))
    (store_steps g.D.Disk.seen (accepted was.policy) P accepts was now G front line c.step.result s.stopped s.placed s.no_memory s.still s.failed)

pub returns-in-Ok-clause-serial : goal.returns-in-Ok-clause-serial
returns-in-Ok-clause-serial g c = λ P T accepts starts.
    let s = c.step.ensures in
    let was = c.args.store.now in
    let now = c.step.new.self in
    let line : Entry = record { caller = c.in-Ok.line.caller; command = c.in-Ok.line.command } in
    let is : line ≡ entry_of c.args.line.now = ap said_entry c.in-Ok.ensures in
    let gives : c.from.result ≡ answered_by c.step.result = search rules in
    subst (λ (z : Entry × Answer). StepsAfter P T was now z.0 (answer_of z.1)) (λ i. (is i, sym gives i))
    (store_steps_after g.D.Disk.seen (accepted was.policy) P accepts was now T starts s.stays.before line c.step.result s.stopped s.placed_behind
    s.no_memory s.still s.failed_behind)
