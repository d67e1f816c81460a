use Rattle.std.proofs.Common.{◌≡◌, ◌∙◌, ◌+◌, ◌<◌, ℕ, ℤ, ap, arith, refl, subst, sym}
use Rattle.std.specs.Prelude.{◌≤ℤ◌}
use Rattle.ucon_collections.specs.NumberSet.{NumberSet}
use Rattle.ucon_readers.specs.Timers.{deadlines_in}
use Rattle.ucon_state.specs.Shown.{shown}
use Rattle.ucon_collections.specs.Deadlines.{IsPassed, count_below, deadline_of}
use Rattle.ucon_cascade.proofs.Moving.{passed_below, passes_on}
use Rattle.ucon_cascade.proofs.Ticking.{passing_like}
use Rattle.ucon_cascade.proofs.passing.pass_deadlines.Goals as goal

pub loop-n-init : goal.loop-n-init
loop-n-init c = record { passing = λ P T t h first. first; limit = refl; undo = λ before gives. gives }

pub put-requires : goal.put-requires
put-requires c =
    let may = c.requires.may in
    let s = shown c.args.state.now in
    let n = c.in-Some.n in
    let due = rw c.in-Some.is at c.in_ok-n.ensures.due in
    subst (λ (limit : ℕ). n < limit) (sym c.loop-n.invariant.limit)
    (passed_below s (deadlines_in c.loop-n.timers) c.loop-n.work.members may.policy may.trace may.next n c.args.work.now.limit may.follows
    (c.loop-n.invariant.passing may.policy may.trace may.next may.follows may.passing)
    (subst (λ (tick : ℤ). IsPassed tick (deadline_of (deadlines_in c.loop-n.timers) n)) (c.tick.ensures ∙ may.follows.tables.tick) due) c.requires.few)

pub loop-n-preserved : goal.loop-n-preserved
loop-n-preserved c =
    let s = shown c.args.state.now in
    let n = c.in-Some.n in
    let ds = deadlines_in c.loop-n.timers in
    let due = rw c.in-Some.is at c.in_ok-n.ensures.due in
    let taken = rw c.in-Some.is at c.in_ok-n.ensures.taken in
    record {
      passing = λ P T t h first.
          passes_on c.tables_keep_what_is_followed.ensures c.readings_that_agree_are_one.ensures s ds (deadlines_in c.take_due.new.self) (deadlines_in c.put_session.new.timers)
          c.loop-n.work.members c.put.new.self.members n P T t h (subst (λ (tick : ℤ). IsPassed tick (deadline_of ds n)) (c.tick.ensures ∙ h.tables.tick) due) taken
          c.in_ok-put_session.ensures.gives c.put.ensures.members (c.loop-n.invariant.passing P T t h first);
      limit = ap (λ (w : NumberSet). w.limit) c.put.ensures.put ∙ c.loop-n.invariant.limit;
      undo = λ before gives. c.put_session.ensures.undo before (c.take_due.ensures.undo before (c.loop-n.invariant.undo before gives));
    }

pub loop-n-smaller : goal.loop-n-smaller
loop-n-smaller c =
    let one = rw c.in-Some.is at c.in_ok-n.ensures.fewer in
    let fewer = subst (λ (tick : ℤ). count_below (deadlines_in c.take_due.new.self) tick + 1 ≡ count_below (deadlines_in c.loop-n.timers) tick) c.tick.ensures one in
    let most = c.in_ok-put_session.ensures.below in
    omega (arith, fewer, most)

pub returns-in_err-n-clause-undo : goal.returns-in_err-n-clause-undo
returns-in_err-n-clause-undo c = λ before gives. c.take_due.ensures.undo before (c.loop-n.invariant.undo before gives)

pub returns-in_err-put_session-clause-undo : goal.returns-in_err-put_session-clause-undo
returns-in_err-put_session-clause-undo c = λ before gives. c.put_session.ensures.undo before (c.take_due.ensures.undo before (c.loop-n.invariant.undo before gives))

pub returns-clause-passed : goal.returns-clause-passed
returns-clause-passed c =
    let alike = rw c.in_default.is at c.in_ok-n.ensures.none in
    let rest = rw c.in_default.is at c.in_ok-n.ensures.rest in
    λ P T t h first. (
      passing_like (deadlines_in c.loop-n.timers) (deadlines_in c.take_due.new.self) c.loop-n.work.members P T t alike (c.loop-n.invariant.passing P T t h first),
      λ n d has. subst (λ (now : ℤ). now ≤ℤ d) (c.tick.ensures ∙ h.tables.tick) (rest n d (sym (alike n) ∙ has)),
    )

pub returns-clause-undo : goal.returns-clause-undo
returns-clause-undo c = λ before gives. c.take_due.ensures.undo before (c.loop-n.invariant.undo before gives)
