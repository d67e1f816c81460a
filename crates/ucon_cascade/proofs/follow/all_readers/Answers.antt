use Rattle.std.proofs.Common.{◌+◌, arith}
use Rattle.ucon_state.specs.Shown.{shown}
use Rattle.ucon_readers.specs.Readers.{first_of, readers_at}
use Rattle.ucon_cascade.proofs.Anew.{all_grouped, all_read, none_read, read_like}
use Rattle.ucon_cascade.proofs.follow.all_readers.Goals as goal

pub loop-before-init : goal.loop-before-init
loop-before-init c = record {
  kept = c.in_ok-readers.ensures.kept;
  read = none_read (shown c.args.state.now) c.in_ok-readers.readers c.in_ok-readers.ensures.nobody;
}

pub loop-before-preserved : goal.loop-before-preserved
loop-before-preserved c = record {
  kept = c.keep.ensures.kept;
  read = read_like (shown c.args.state.now) c.add_accessing.new.readers c.keep.new.self (c.loop-before.before + 1 + 1) c.keep.ensures.read c.keep.ensures.firsts
      c.in_ok-add_accessing.ensures;
}

pub returns-clause-exact : goal.returns-clause-exact
returns-clause-exact c =
    all_read (shown c.args.state.now) (readers_at c.loop-before.readers) (c.loop-before.before + 1) (omega (arith, c.loop-before-test.false, c.sessions-before-end.ensures.tables))
    c.loop-before.invariant.read.exact

pub returns-clause-grouped : goal.returns-clause-grouped
returns-clause-grouped c =
    all_grouped (shown c.args.state.now) (first_of c.loop-before.readers) (c.loop-before.before + 1) (omega (arith, c.loop-before-test.false, c.sessions-before-end.ensures.tables))
    c.loop-before.invariant.read.grouped
