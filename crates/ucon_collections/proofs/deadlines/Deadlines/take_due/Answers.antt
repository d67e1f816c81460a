use Rattle.std.proofs.Common.{◌≡◌, ◌∙◌, Some, ap, arith, refl, rules, sym, w64}
use Rattle.std.proofs.lemmas.Bool.{false≢true}
use Rattle.std.proofs.lemmas.Int.{to_z-of_z}
use mir.Val.{SFits}
use Rattle.ucon_collections.specs.Deadlines.{deadline_of, passed}
use Rattle.ucon_collections.specs.Entries.{entry}
use Rattle.ucon_collections.proofs.Counting.{passed-below}
use Rattle.ucon_collections.proofs.Taking.{due_taken, kept_sound, nobodys_taken, shorter, takes_first}
use Rattle.ucon_collections.proofs.deadlines.Deadlines.take_due.Goals as goal

pub invariant_of-self-then-has : goal.invariant_of-self-then-has
invariant_of-self-then-has c =
    let before = c.loop-deadline.self-inside in
    let room = c.make_room.ensures in
    let e = entry c.in-Some.deadline c.in-Some.session in
    let takes = takes_first e before.queue c.make_room.new.self c.take_first.new.self room.waiting room.taken c.in-Some.ensures.first c.take_first.ensures.taken c.take_first.ensures.rest in
    due_taken before.owned c.set.new.self before.queue c.take_first.new.self c.in-Some.deadline c.in-Some.session c.loop-deadline.invariant.sound takes c.in_ok-set.ensures.gives c.set.ensures.opening

pub invariant_of-self-in_err-set : goal.invariant_of-self-in_err-set
invariant_of-self-in_err-set c =
    let before = c.loop-deadline.self-inside in
    let room = c.make_room.ensures in
    kept_sound before.owned c.set.new.self before.queue c.make_room.new.self c.loop-deadline.invariant.sound c.in_err-set.ensures.err c.set.ensures.opening room.waiting room.taken

pub returns-then-has-clause-fewer : goal.returns-then-has-clause-fewer
returns-then-has-clause-fewer c =
    let fits : SFits w64 c.in-Some.deadline = search rules in
    let own = c.if-has.ensures.0 refl ∙ ap Some (to_z-of_z w64 c.in-Some.deadline fits) in
    let one = ap (passed c.args.tick) own ∙ passed-below c.args.tick c.in-Some.deadline c.in-Some.ensures.below in
    rw (← c.loop-deadline.invariant.same) (omega (arith, c.in_ok-set.ensures.count c.args.tick, one))

pub loop-deadline-smaller : goal.loop-deadline-smaller
loop-deadline-smaller c =
    let before = c.loop-deadline.self-inside in
    let room = c.make_room.ensures in
    let e = entry c.in-Some.deadline c.in-Some.session in
    let taken = c.take_first-in-Some.ensures in
    shorter e before.queue c.take_first-in-Some.new.self (takes_first e before.queue c.make_room.new.self c.take_first-in-Some.new.self room.waiting room.taken c.in-Some.ensures.first taken.taken taken.rest)

pub loop-deadline-preserved : goal.loop-deadline-preserved
loop-deadline-preserved c =
    let before = c.loop-deadline.self-inside in
    let room = c.make_room.ensures in
    let e = entry c.in-Some.deadline c.in-Some.session in
    let taken = c.take_first-in-Some.ensures in
    let takes = takes_first e before.queue c.make_room.new.self c.take_first-in-Some.new.self room.waiting room.taken c.in-Some.ensures.first taken.taken taken.rest in
    let fits : SFits w64 c.in-Some.deadline = search rules in
    let other = λ (is : deadline_of before.owned.now c.in-Some.session ≡ Some c.in-Some.deadline). false≢true (c.if-has.ensures.1 (is ∙ ap Some (sym (to_z-of_z w64 c.in-Some.deadline fits)))) in
    record {
      same = c.loop-deadline.invariant.same;
      sound = nobodys_taken before.owned before.queue c.take_first-in-Some.new.self c.in-Some.deadline c.in-Some.session c.loop-deadline.invariant.sound takes other;
    }

pub returns-clause-rest : goal.returns-clause-rest
returns-clause-rest c = λ n d is. c.in_default.ensures.none d n (c.loop-deadline.invariant.sound.now n d (rw c.loop-deadline.invariant.same is))
