use Rattle.std.proofs.Common.{rules, ◌≡◌, ◌++◌, ◌<◌, true, false, take, ap, subst, ◌∙◌}
use Rattle.std.proofs.lemmas.List.Elements.{All-take, recursion_from_All}
use Rattle.ucon_model.specs.declared.command.Entry.{Entry}
use Rattle.ucon_model.specs.History.{trace_from}
use Rattle.ucon_model.specs.Plain.{Bytes}
use Rattle.ucon_store.specs.Batched.{batch_behind}
use Rattle.ucon_store.specs.declared.batch.BatchEnd.TheVariants as ends
use Rattle.ucon_syntax.specs.Policies.{accepted}
use Rattle.ucon_converse.specs.Answering.{answering}
use Rattle.ucon_converse.specs.Holding.{standing}
use Rattle.ucon_converse.specs.Keeping.{IsDated, Keeps}
use Rattle.ucon_converse.specs.KeeperLaws.{keeps_again}
use Rattle.ucon_converse.specs.Reached.{reached_by}
use Rattle.ucon_converse.specs.Replies.{GoesOn}
use Rattle.ucon_converse.specs.Together.{is_answered}
use Rattle.ucon_converse.proofs.BatchesAt.{answered_at, unanswered_at}
use Rattle.ucon_converse.proofs.Checkpoints.{keeps_steps}
use Rattle.ucon_converse.proofs.Conversing.{front_same}
use Rattle.ucon_converse.proofs.Dated.{dated_before, goes_as}
use Rattle.ucon_converse.proofs.Stepping.{led_later}
use Rattle.ucon_converse.proofs.Taking.{answered_no_fault, never_stopped, some_answered, steps_answered, steps_unanswered}
use Rattle.ucon_converse.proofs.Unpointed.{places_unpointed, steps_unpointed}
use Rattle.ucon_converse.proofs.together.take_together.Given.{Over}
use Rattle.ucon_converse.proofs.together.take_together.Goals.{After-step_all-told}
use Rattle.ucon_converse.proofs.together.take_together.Goals as goal

module _ (g : Over) (c : After-step_all-told g) where
  -- what is left once the batch was taken
  batch_keeps : Keeps g.D.Disk.seen (answering c.args.store.now c.args.points.now) (answering c.step_all-told.new.self c.args.points.now)
  batch_keeps =
      let led = c.requires.led in
      let was = c.args.store.now in
      let lines = c.args.lines.now in
      let b = c.step_all-told.result in
      let s = c.step_all-told.ensures in
      let added = batch_behind led.P led.begun was lines b in
      let few = recursion_from_All (λ (e : Entry). e.caller.0 < 64) (take b.taken lines) (All-take (λ (e : Entry). e.caller.0 < 64) b.taken lines c.requires.clients) in
      keeps_steps g.D.Disk.seen g.met.D.Disk.only_now g.met.D.Disk.as_read g.met.D.Disk.counts_now was c.step_all-told.new.self c.args.points.now.made c.args.points.now.tried
      added (places_unpointed added (steps_unpointed led.P (trace_from led.P led.begun was.entries) (take b.taken lines) few))
      s.stays s.stays.mark (λ file unmarked told. s.adds led.P led.begun file led.accepts led.starts unmarked told) c.requires.unmarked

  halted : c.step_all-told.result.end ≡ ends.Stopped → ⊥
  halted is = never_stopped c.args.store.now.mark c.requires.unmarked (c.step_all-told.ensures.stopped.0 is)

pub rest-requires-clause-led : goal.rest-requires-clause-led
rest-requires-clause-led g c = led_later g.D.Disk.seen c.args.store.now c.step_all-told.new.self c.requires.led c.step_all-told.ensures.stays

pub rest-requires-clause-unmarked : goal.rest-requires-clause-unmarked
rest-requires-clause-unmarked g c =
    let b = c.step_all-told.result in
    let yes : is_answered b.end b.placed.items ≡ true = search rules in
    c.step_all-told.ensures.unmarked (answered_no_fault b.end b.placed.items yes) ∙ c.requires.unmarked

pub returns-then-is_answered-clause-steps : goal.returns-then-is_answered-clause-steps
returns-then-is_answered-clause-steps g c = λ P G places accepts front.
    let seen = g.D.Disk.seen in
    let was = c.args.store.now in
    let mid = c.step_all-told.new.self in
    let b = c.step_all-told.result in
    let s = c.step_all-told.ensures in
    let points = c.args.points.now in
    let batched = s.batched P G accepts front in
    let yes : is_answered b.end b.placed.items ≡ true = search rules in
    let keeps = batch_keeps g (goal.at.returns-then-is_answered-clause-steps g c).After-step_all-told in
    let before = standing G places (answering mid points) in
    let after = standing G places (answering c.rest.new.store c.rest.new.points) in
    let goes = c.rest.ensures.goes_on P G places (ap accepted s.stays.policy ∙ accepts) (front_same P was mid G s.stays.policy s.stays.point s.stays.before front) in
    let dated = goes_as accepted P mid.policy (IsDated (seen mid.disk).contents) (IsDated (seen was.disk).contents)
    (dated_before (seen was.disk).contents (seen mid.disk).contents s.stays.tells keeps.kind) before after goes in
    steps_answered (IsDated (seen was.disk).contents) P was.policy G (places ++ points.made) points.tried was mid c.args.lines.now c.requires.unmarked (c.requires.due P G accepts front)
    b.end b.placed.items b.taken yes batched.replies s.cut s.within batched.entries (λ ok. s.unmarked ok ∙ c.requires.unmarked) after
    (subst (λ (text : Bytes). GoesOn (IsDated (seen was.disk).contents) P text before after) s.stays.policy dated)

pub returns-then-is_answered-clause-steps_at : goal.returns-then-is_answered-clause-steps_at
returns-then-is_answered-clause-steps_at g c = λ P T accepts starts.
    let was = c.args.store.now in
    let mid = c.step_all-told.new.self in
    let b = c.step_all-told.result in
    let s = c.step_all-told.ensures in
    let batched = s.batched_behind P T accepts starts in
    let holds : is_answered b.end b.placed.items ≡ true = search rules in
    answered_at P T was mid c.args.lines.now c.requires.unmarked s.stays.before b.end b.placed.items b.taken holds batched.replies s.cut batched.entries
    (λ ok. s.unmarked ok ∙ c.requires.unmarked) (reached_by P T c.rest.new.store) (c.rest.ensures.still P T)

pub returns-else-is_answered-clause-steps_at : goal.returns-else-is_answered-clause-steps_at
returns-else-is_answered-clause-steps_at g c = λ P T accepts starts.
    let was = c.args.store.now in
    let b = c.step_all-told.result in
    let s = c.step_all-told.ensures in
    let batched = s.batched_behind P T accepts starts in
    let fails : is_answered b.end b.placed.items ≡ false = search rules in
    unanswered_at P T was c.step_all-told.new.self c.args.lines.now c.requires.unmarked s.stays.before b.end b.placed.items b.taken fails c.requires.some
    (halted g (goal.at.returns-else-is_answered-clause-steps_at g c).After-step_all-told) s.all s.full
    batched.replies s.cut s.doubted s.within batched.entries (λ ok. s.unmarked ok ∙ c.requires.unmarked) (λ bad. (s.failed bad).0) batched.mark batched.sure batched.first

pub returns-then-is_answered-clause-keeps : goal.returns-then-is_answered-clause-keeps
returns-then-is_answered-clause-keeps g c =
    let points = c.args.points.now in
    keeps_again g.D.Disk.seen g.met.D.Disk.only_now g.met.D.Disk.as_read g.met.D.Disk.counts_now (answering c.args.store.now points) (answering c.step_all-told.new.self points)
    (answering c.rest.new.store c.rest.new.points) (batch_keeps g (goal.at.returns-then-is_answered-clause-keeps g c).After-step_all-told) c.rest.ensures.keeps

pub returns-then-is_answered-clause-some : goal.returns-then-is_answered-clause-some
returns-then-is_answered-clause-some g c =
    let b = c.step_all-told.result in
    let s = c.step_all-told.ensures in
    some_answered b.end c.args.lines.now b.placed.items b.taken c.requires.some (halted g (goal.at.returns-then-is_answered-clause-some g c).After-step_all-told)
    s.all s.full s.cut s.doubted s.within

pub returns-else-is_answered-clause-steps : goal.returns-else-is_answered-clause-steps
returns-else-is_answered-clause-steps g c = λ P G places accepts front.
    let was = c.args.store.now in
    let b = c.step_all-told.result in
    let s = c.step_all-told.ensures in
    let points = c.args.points.now in
    let batched = s.batched P G accepts front in
    let no : is_answered b.end b.placed.items ≡ false = search rules in
    steps_unanswered (IsDated (g.D.Disk.seen was.disk).contents) P was.policy G (places ++ points.made) points.tried was c.step_all-told.new.self c.args.lines.now
    c.requires.unmarked (c.requires.due P G accepts front)
    b.end b.placed.items b.taken no c.requires.some (halted g (goal.at.returns-else-is_answered-clause-steps g c).After-step_all-told) s.all s.full
    batched.replies s.cut s.doubted s.within batched.entries (λ ok. s.unmarked ok ∙ c.requires.unmarked) (λ bad. (s.failed bad).0) batched.mark batched.sure batched.first

pub returns-else-is_answered-clause-keeps : goal.returns-else-is_answered-clause-keeps
returns-else-is_answered-clause-keeps g c = batch_keeps g (goal.at.returns-else-is_answered-clause-keeps g c).After-step_all-told

pub returns-else-is_answered-clause-some : goal.returns-else-is_answered-clause-some
returns-else-is_answered-clause-some g c =
    let b = c.step_all-told.result in
    let s = c.step_all-told.ensures in
    some_answered b.end c.args.lines.now b.placed.items b.taken c.requires.some (halted g (goal.at.returns-else-is_answered-clause-some g c).After-step_all-told)
    s.all s.full s.cut s.doubted s.within
