use Rattle.std.proofs.Common.{◌∙◌, ◌+◌, arith, refl}
use Rattle.ucon_state.specs.Shown.{shown}
use Rattle.ucon_readers.specs.Readers.{first_of}
use Rattle.ucon_cascade.proofs.Putting.{GoOnBelow, all_go_on, gains_none, next_goes_on, none_go_on}
use Rattle.ucon_cascade.proofs.own_work.put_accessing.Goals as goal

pub loop-before-init : goal.loop-before-init
loop-before-init c = record {
  members = (let s = shown c.args.state.now in gains_none (first_of c.args.readers.now) c.args.work.now.members (GoOnBelow s 1) (none_go_on s));
  limit = refl;
}

pub loop-before-preserved : goal.loop-before-preserved
loop-before-preserved c = record {
  members = next_goes_on (shown c.args.state.now) (first_of c.args.readers.now) c.args.work.now.members c.loop-before.work.members c.put_if_accessing.new.work.members (c.loop-before.before + 1)
      c.loop-before.invariant.members c.put_if_accessing.ensures.members;
  limit = c.put_if_accessing.ensures.limit ∙ c.loop-before.invariant.limit;
}

pub returns-clause-members : goal.returns-clause-members
returns-clause-members c =
    let s = shown c.args.state.now in
    all_go_on s (first_of c.args.readers.now) c.args.work.now.members c.loop-before.work.members (c.loop-before.before + 1) (omega (arith, c.loop-before-test.false, c.sessions-before-end.ensures.tables))
    c.loop-before.invariant.members
